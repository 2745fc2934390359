-- the core's one call, under the disk, is the event of the node's number, and its report is taken out of what it leaves
use Rattle.std.proofs.Common.{◌≡◌, ◌∙◌, ℕ, Bool, None, Some, ap, arith, length, refl, subst, sym}
use Rattle.std.specs.Prelude.{if◌then◌else◌}
use Rattle.xl_tags.specs.Rings.{Ring}
use Rattle.xl_core.specs.Core.{Core, CoreReply}
use Rattle.xl_core.specs.Deeds.{MayUnder, event_under}
use Rattle.xl_core.specs.Deeds.{answer_of as answer_of_told}
use Rattle.xl_core.specs.Node.{Node}
use Rattle.xl_core.specs.declared.deed.Deed.{Deed}
use Rattle.xl_core.specs.declared.event.CoreEvent.{CoreEvent}
use Rattle.xl_world.specs.declared.place.Disk.{Disk}
use Rattle.xl_world.specs.declared.place.Place.{Place}
use Rattle.xl_world.specs.Disk.{answer_of}
use Rattle.xl_world.specs.Emptying.{handed_out}
use Rattle.xl_world.specs.Seen.{Does, deed_event, is_relisted, list_now, said_in}
use Rattle.xl_world.specs.World.{reply_at}
use Rattle.xl_world.proofs.Doing.{happens_does, report_left, said_so, set_so, untaken_then}
use Rattle.xl_world.proofs.Taking.{few_reports}
use Rattle.xl_world.proofs.place.Place.happens.Goals as goal
use Rattle.xl_world.proofs.place.Place.happens.Goals.{After-happen}

-- what it does
does : (c : After-happen) → Does c.args.self.now.core (deed_event c.args.self.now.core.node.me c.args.deed.now) (record { disk = c.args.self.now.disk; fate = c.args.fate; asked = None }) c.happen.new.self c.happen.new.answer c.happen.new.keeper
does c =
    subst (λ (keys : Ring). Does c.args.self.now.core (event_under keys c.args.deed.now) (record { disk = c.args.self.now.disk; fate = c.args.fate; asked = None }) c.happen.new.self c.happen.new.answer c.happen.new.keeper) c.requires.rested.keys
    (happens_does c.args.self.now.core c.happen.new.self (event_under c.args.self.now.core.node.keys c.args.deed.now) c.happen.new.answer (record { disk = c.args.self.now.disk; fate = c.args.fate; asked = None }) c.happen.new.keeper c.happen.ensures)

pub happen-requires : goal.happen-requires
happen-requires c = record { may = subst (λ (keys : Ring). MayUnder keys c.args.deed.now) (sym c.requires.rested.keys) c.requires.may }

pub take_report-requires-clause-few : goal.take_report-requires-clause-few
take_report-requires-clause-few c =
    let place = c.args.self.now in
    let e = deed_event place.core.node.me c.args.deed.now in
    let d = (goal.at.take_report-requires-clause-few c).After-happen in
    omega (
      arith,
      ap length (ap (λ (k : Core). k.untaken.items) (does d).core ∙ untaken_then place.core place.core.node.me c.args.deed.now (answer_of place.disk c.args.fate) c.requires.rested.untaken),
      few_reports (reply_at place e c.args.fate).report,
    )

pub returns-clause-place : goal.returns-clause-place
returns-clause-place c =
    let d = (goal.at.returns-clause-place c).After-happen in
    let place = c.args.self.now in
    let e : CoreEvent = deed_event place.core.node.me c.args.deed.now in
    ap (λ (k : Core). let p : Place = record { core = k; disk = c.happen.new.keeper.disk } in p) (c.take_report.ensures.core ∙ ap handed_out (does d).core)
    ∙ ap (λ (x : Disk). let p : Place = record { core = handed_out (reply_at place e c.args.fate).core; disk = x } in p) (does d).disk

pub returns-clause-answer : goal.returns-clause-answer
returns-clause-answer c =
    let did = does ((goal.at.returns-clause-answer c).After-happen) in
    let place = c.args.self.now in
    let i : ℕ = place.core.node.me in
    let d : Deed = c.args.deed.now in
    let save = answer_of place.disk c.args.fate in
    let r : CoreReply = reply_at place (deed_event i d) c.args.fate in
    let me : c.me-me.result ≡ i = c.me-me.ensures ∙ ap (λ (n : Node). n.me) c.node.ensures.value in
    record {
      told = did.says;
      asked = did.asked refl;
      said = c.note_said.ensures ∙ (ap (λ (m : ℕ). said_in m d (answer_of_told c.happen.new.answer)) me ∙ (ap (said_in i d) did.says ∙ said_so place.core i d save));
      report = report_left c.happen.new.self r c.take_report.new.report (untaken_then place.core i d save c.requires.rested.untaken) did.core c.take_report.ensures.report;
      set = ap (λ (b : Bool). if b then Some (list_now r.core.node) else None) (c.is_relisted-answer.ensures ∙ ap (is_relisted d) did.says) ∙ set_so place.core i d save;
    }
