-- a timer that builds nothing asks for no save, and one that builds asks for at most one, when it concludes
use Rattle.std.proofs.Common.{◌∙◌, ap, sym, subst}
use Rattle.xl_core.specs.declared.event.CoreEvent.TheVariants.{Timer}
use Rattle.xl_core.specs.Core.{Core, core_asks}
use Rattle.xl_core.specs.Node.{at_moment}
use Rattle.xl_core.specs.Keeping.{IsAsked}
use Rattle.xl_core.specs.Stops.{IsCovered}
use Rattle.xl_core.specs.TimerParts.{Beaten, IsTimerPart, outcome_by, save_at, beat_was_kept}
use Rattle.xl_core.specs.declared.timer_part.TimerPart.{TimerPart}
use Rattle.xl_core.proofs.Concluding.{quiet_step, quiet_asks, quiet_fault, built_step, built_asks}
use Rattle.xl_core.proofs.Stopping.{timer_covers}
use Rattle.xl_core.proofs.the_core.Core.timer_with.Goals as goal

pub returns-in-Quiet-clause-step : goal.returns-in-Quiet-clause-step
returns-in-Quiet-clause-step g c =
    let old : Core = record { node = c.self.inside.node; waiting = c.self.inside.waiting; greetings = c.self.inside.greetings; untaken = c.self.inside.untaken; stopped = c.self.inside.stopped } in
    let new : Core = record { node = c.timer.new.self; waiting = c.push_said.new.waiting; greetings = c.self.inside.greetings; untaken = c.self.inside.untaken; stopped = c.self.inside.stopped } in
    subst (λ (a : Core). Beaten a c.args.now c.in-Quiet.answer new) c.self.view_is
    (quiet_step old (at_moment c.args.now c.self.inside.node) c.timer.new.self c.in-Quiet.answer c.in-Quiet.said c.push_said.new.waiting (save_at c.in-Quiet.answer) (ap (λ (p : TimerPart). outcome_by p c.timer.new.self) (sym c.in-Quiet.is) ∙ c.timer.ensures.exact) c.push_said.ensures.pushed)

-- nothing was asked of the keeper
quiet : (g : _) (c : goal.After-result-1 g) → IsAsked g.K.Keeper.held g.K.Keeper.saves g.K.Keeper.faults g.K.Keeper.save_gives (core_asks c.args.self.now (Timer c.args.now)) (beat_was_kept c.in-Quiet.answer) c.args.keeper.now c.args.keeper.now
quiet g c =
    subst (λ (a : Core). IsAsked g.K.Keeper.held g.K.Keeper.saves g.K.Keeper.faults g.K.Keeper.save_gives (core_asks a (Timer c.args.now)) (beat_was_kept c.in-Quiet.answer) c.args.keeper.now c.args.keeper.now) c.self.view_is
    (quiet_asks g.K.Keeper.held g.K.Keeper.saves g.K.Keeper.faults g.K.Keeper.save_gives (beat_was_kept c.in-Quiet.answer) c.args.keeper.now (at_moment c.args.now c.self.inside.node) c.timer.new.self c.in-Quiet.answer c.in-Quiet.said (ap (λ (p : TimerPart). outcome_by p c.timer.new.self) (sym c.in-Quiet.is) ∙ c.timer.ensures.exact))

pub returns-in-Quiet-clause-fault : goal.returns-in-Quiet-clause-fault
returns-in-Quiet-clause-fault g c = quiet_fault c.in-Quiet.answer (g.K.Keeper.faults c.args.keeper.now) (subst (IsTimerPart c.timer.new.self) c.in-Quiet.is c.timer.ensures.part)

pub returns-in-Quiet-clause-held : goal.returns-in-Quiet-clause-held
returns-in-Quiet-clause-held g c = (quiet g c).held

pub returns-in-Quiet-clause-saves : goal.returns-in-Quiet-clause-saves
returns-in-Quiet-clause-saves g c = (quiet g c).saves

pub returns-in-Quiet-clause-keeper : goal.returns-in-Quiet-clause-keeper
returns-in-Quiet-clause-keeper g c = (quiet g c).keeper

pub returns-in-Quiet-clause-stop : goal.returns-in-Quiet-clause-stop
returns-in-Quiet-clause-stop g c = λ before after was_told is_told was.
    subst (IsCovered after) (sym (returns-in-Quiet-clause-step g c).core)
    (timer_covers before after (g.K.Keeper.held c.args.keeper.now) (g.K.Keeper.held c.args.keeper.now) c.args.self.now c.args.now (save_at c.in-Quiet.answer) (quiet g c).held was_told is_told was)

pub returns-in-Built-clause-step : goal.returns-in-Built-clause-step
returns-in-Built-clause-step g c =
    let old : Core = record { node = c.self.inside.node; waiting = c.self.inside.waiting; greetings = c.self.inside.greetings; untaken = c.self.inside.untaken; stopped = c.self.inside.stopped } in
    subst (λ (a : Core). Beaten a c.args.now c.conclude.result c.conclude.new.self) c.self.view_is
    (built_step old (at_moment c.args.now c.self.inside.node) c.timer.new.self c.in-Built.built c.conclude.result c.conclude.new.self (save_at c.conclude.result) (ap (λ (p : TimerPart). outcome_by p c.timer.new.self) (sym c.in-Built.is) ∙ c.timer.ensures.exact) c.conclude.ensures.step)

-- what was asked of the keeper
asked : (g : _) (c : goal.After-conclude g) → IsAsked g.K.Keeper.held g.K.Keeper.saves g.K.Keeper.faults g.K.Keeper.save_gives (core_asks c.args.self.now (Timer c.args.now)) (beat_was_kept c.conclude.result) c.args.keeper.now c.conclude.new.keeper
asked g c =
    subst (λ (a : Core). IsAsked g.K.Keeper.held g.K.Keeper.saves g.K.Keeper.faults g.K.Keeper.save_gives (core_asks a (Timer c.args.now)) (beat_was_kept c.conclude.result) c.args.keeper.now c.conclude.new.keeper) c.self.view_is
    (built_asks g.K.Keeper.held g.K.Keeper.saves g.K.Keeper.faults g.K.Keeper.save_gives (beat_was_kept c.conclude.result) c.args.keeper.now c.conclude.new.keeper (at_moment c.args.now c.self.inside.node) c.timer.new.self c.in-Built.built (ap (λ (p : TimerPart). outcome_by p c.timer.new.self) (sym c.in-Built.is) ∙ c.timer.ensures.exact) c.conclude.ensures.asks)

pub returns-in-Built-clause-held : goal.returns-in-Built-clause-held
returns-in-Built-clause-held g c = (asked g c).held

pub returns-in-Built-clause-saves : goal.returns-in-Built-clause-saves
returns-in-Built-clause-saves g c = (asked g c).saves

pub returns-in-Built-clause-keeper : goal.returns-in-Built-clause-keeper
returns-in-Built-clause-keeper g c = (asked g c).keeper

pub returns-in-Built-clause-stop : goal.returns-in-Built-clause-stop
returns-in-Built-clause-stop g c = λ before after was_told is_told was.
    subst (IsCovered after) (sym (returns-in-Built-clause-step g c).core)
    (timer_covers before after (g.K.Keeper.held c.args.keeper.now) (g.K.Keeper.held c.conclude.new.keeper) c.args.self.now c.args.now (save_at c.conclude.result) (asked g c).held was_told is_told was)

pub invariant_of-self : goal.invariant_of-self
invariant_of-self g c = c.push_said.ensures.marks c.self.inside.greetings c.self.invariant
