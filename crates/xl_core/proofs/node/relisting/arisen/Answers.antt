use Rattle.std.proofs.Common.{◌∙◌, ap, sym, length, arith}
use Rattle.std.specs.Prelude.{find, option_map}
use Rattle.std.proofs.lemmas.List.{drop_all}
use Rattle.xl_core.specs.Node.{arises_in, report_of}
use Rattle.xl_core.proofs.Relisting.{arisen_among, currents_by_members}
use Rattle.xl_core.proofs.node.relisting.arisen.Goals as goal

pub loop-member-init : goal.loop-member-init
loop-member-init g c =
    ap (λ vs. option_map report_of (find (arises_in c.args.list.now.quorum c.args.table.now.rows c.args.last.now) vs))
    (currents_by_members c.args.table.now.rows c.args.list.now.members c.requires.members c.quorum-quorum.ensures.valid.once)

pub returns : goal.returns
returns g c =
    let list = c.args.list.now in
    let rows = c.args.table.now.rows in
    ap (arisen_among list.quorum rows c.args.last.now) (sym (drop_all c.loop-member.member-index list.members (omega (arith, c.loop-member-test.false, ap length c.members-member-items.ensures.value)))) ∙ c.loop-member.invariant
