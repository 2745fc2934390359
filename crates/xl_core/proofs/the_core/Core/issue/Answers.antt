-- what is issued waits only once its number was saved, so the keeper's number covers it, and a refusal adds none
use Rattle.std.proofs.Common.{◌≡◌, sym, subst, true}
use Rattle.std.specs.Prelude.{option_map}
use Rattle.xl_io.specs.Keepers.{after_save}
use Rattle.xl_core.specs.declared.event.CoreEvent.TheVariants as event
use Rattle.xl_core.specs.Answers.{Refused, Done}
use Rattle.xl_core.specs.Node.{Save, Issue, happens, is_kept}
use Rattle.xl_core.specs.Core.{Core, core_happens, core_asks}
use Rattle.xl_core.specs.Replies.{Answers, save_of}
use Rattle.xl_core.specs.Issuing.Save.{Kept}
use Rattle.xl_core.specs.Stops.{IsCovered}
use Rattle.xl_core.proofs.Stepping.{issued_step, refused_step}
use Rattle.xl_core.proofs.Stopping.{issue_covers}
use Rattle.xl_core.proofs.the_core.Core.issue.Goals as goal

pub returns-in-Ok-clause-step : goal.returns-in-Ok-clause-step
returns-in-Ok-clause-step g c =
    let old : Core = record { node = c.self.inside.node; waiting = c.self.inside.waiting; greetings = c.self.inside.greetings; untaken = c.self.inside.untaken; stopped = c.self.inside.stopped } in
    let new : Core = record { node = c.issue.new.self; waiting = c.push.new.waiting; greetings = c.self.inside.greetings; untaken = c.push_report.new.untaken; stopped = c.self.inside.stopped } in
    subst (λ (a : Core). Answers (core_happens a (event.Issue c.args.now c.args.seq c.args.id c.args.full) Kept) new Done) c.self.view_is
    (issued_step old c.issue.new.self c.in-Ok.issued c.push.new.waiting c.push_report.new.untaken (happens c.self.inside.node (Issue c.args.now c.args.seq c.args.id c.args.full) Kept)
    c.in-Ok.ensures.exact c.push.ensures.pushed c.push_report.ensures)

pub returns-in-Ok-clause-stop : goal.returns-in-Ok-clause-stop
returns-in-Ok-clause-stop g c = λ before after was_told is_told was.
    let e = event.Issue c.args.now c.args.seq c.args.id c.args.full in
    let told = subst (λ (a : Core). g.K.Keeper.held c.issue.new.keeper ≡ option_map (λ held. after_save held (core_asks a e) true) (g.K.Keeper.held c.args.keeper.now)) c.self.view_is c.in-Ok.ensures.held in
    subst (IsCovered after) (sym (returns-in-Ok-clause-step g c).core)
    (issue_covers before after (g.K.Keeper.held c.args.keeper.now) (g.K.Keeper.held c.issue.new.keeper) c.args.self.now c.args.now c.args.seq c.args.id c.args.full Kept told was_told is_told was)

pub returns-in-Err-clause-step : goal.returns-in-Err-clause-step
returns-in-Err-clause-step g c =
    let save : Save = save_of c.in-Err.why in
    let old : Core = record { node = c.self.inside.node; waiting = c.self.inside.waiting; greetings = c.self.inside.greetings; untaken = c.self.inside.untaken; stopped = c.self.inside.stopped } in
    let new : Core = record { node = c.issue.new.self; waiting = c.self.inside.waiting; greetings = c.self.inside.greetings; untaken = c.self.inside.untaken; stopped = c.self.inside.stopped } in
    subst (λ (a : Core). Answers (core_happens a (event.Issue c.args.now c.args.seq c.args.id c.args.full) save) new (Refused c.in-Err.why)) c.self.view_is
    (refused_step old c.issue.new.self c.in-Err.why (happens c.self.inside.node (Issue c.args.now c.args.seq c.args.id c.args.full) save) c.in-Err.ensures.exact)

pub returns-in-Err-clause-stop : goal.returns-in-Err-clause-stop
returns-in-Err-clause-stop g c = λ before after was_told is_told was.
    let save : Save = save_of c.in-Err.why in
    let e = event.Issue c.args.now c.args.seq c.args.id c.args.full in
    let told = subst (λ (a : Core). g.K.Keeper.held c.issue.new.keeper ≡ option_map (λ held. after_save held (core_asks a e) (is_kept save)) (g.K.Keeper.held c.args.keeper.now)) c.self.view_is c.in-Err.ensures.held in
    subst (IsCovered after) (sym (returns-in-Err-clause-step g c).core)
    (issue_covers before after (g.K.Keeper.held c.args.keeper.now) (g.K.Keeper.held c.issue.new.keeper) c.args.self.now c.args.now c.args.seq c.args.id c.args.full save told was_told is_told was)

pub invariant_of-self : goal.invariant_of-self
invariant_of-self g c = c.push.ensures.marks c.self.inside.greetings c.self.invariant
