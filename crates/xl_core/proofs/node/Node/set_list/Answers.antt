-- each member of the new list has one row and a key, and what its rows give to report is noted as reported last
use Rattle.std.proofs.Common.{◌∙◌, List, map, ap, sym, subst}
use Rattle.xl_lists.specs.Lists.{TrustedList}
use Rattle.xl_tags.specs.Opening.{HasKeys}
use Rattle.xl_validations.specs.declared.row.Row.{Row}
use Rattle.xl_validations.specs.Rows.{relisted}
use Rattle.xl_validations.proofs.Relisting.{members_relisted}
use Rattle.xl_core.specs.declared.last.LastReport.{LastReport}
use Rattle.xl_core.specs.Lasts.{last_after}
use Rattle.xl_core.specs.Node.{Node, arisen_in}
use Rattle.xl_core.specs.Rest.{IsReady, node_seen}
use Rattle.xl_core.proofs.Relisting.{list_ready}
use Rattle.xl_core.proofs.node.Node.set_list.Goals as goal

pub arisen-report-requires : goal.arisen-report-requires
arisen-report-requires g c = record {
  members = ap (map (λ (row : Row). row.member)) (c.relist-2.ensures.rows ∙ ap (λ (l : TrustedList). relisted l.members c.self.inside.table.rows) c.copy.ensures)
      ∙ members_relisted c.args.list.members c.self.inside.table.rows;
}

pub invariant_of-self : goal.invariant_of-self
invariant_of-self g c =
    let n : Node = node_seen c.self.inside in
    let list : TrustedList = c.args.list in
    let rows : List Row = c.relist-2.new.self.rows in
    let report = c.arisen-report.result in
    let report_is = c.arisen-report.ensures ∙ ap (arisen_in list.quorum rows) c.over_another_list-self-inside.ensures in
    let last_is = c.note.ensures ∙ ap (λ (l : LastReport). last_after l report) c.over_another_list-self-inside.ensures in (
      subst (λ (l : LastReport). IsReady (record n { list = list; rows = rows; round = c.relist.new.self; last = l })) (sym last_is)
          (list_ready n list rows c.relist.new.self report c.self.invariant.0 c.members-members.ensures.valid
          (subst (λ (m : Node). HasKeys m.keys list.members) (sym c.self.view_is) c.requires.keyed)
          (c.relist-2.ensures.rows ∙ ap (λ (l : TrustedList). relisted l.members n.rows) c.copy.ensures) c.relist.ensures.setting report_is),
      c.relist-2.ensures.tally,
      c.relist-2.ensures.me ∙ c.self.invariant.2,
    )
