use Rattle.std.proofs.Common.{refl}
use Rattle.xl_core.specs.Answers.{Beats}
use Rattle.xl_core.specs.declared.event.CoreEvent.TheVariants.{Timer}
use Rattle.xl_core.specs.Node.{at_moment}
use Rattle.xl_core.specs.TimerParts.{save_at}
use Rattle.xl_store.specs.Outcomes.{outcome_at}
use Rattle.xl_store.proofs.Noting.{same_at, beat_counted, beat_with}
use Rattle.xl_store.proofs.Turning.{answers_home}
use Rattle.xl_store.proofs.home.Home.timer.Goals as goal

pub returns : goal.returns
returns g c =
    let done = c.timer.ensures in
    answers_home g.K.Keeper.held g.K.Keeper.saves g.K.Keeper.faults g.K.Keeper.save_gives c.args.self.now _ (Timer c.args.now)
    (save_at c.timer.result) (outcome_at c.timer.result) (Beats c.timer.result) c.requires.moment (same_at c.timer.result)
    (beat_with (at_moment c.args.now c.args.self.now.core.node) (save_at c.timer.result) c.timer.result done.step.answer) done.step
    (record { held = done.held; saves = done.saves; keeper = done.keeper; later = done.later })
    (beat_counted c.timer.result _ _ done.fault) refl
