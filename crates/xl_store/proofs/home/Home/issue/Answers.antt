use Rattle.std.proofs.Common.{refl}
use Rattle.xl_core.specs.declared.event.CoreEvent.TheVariants.{Issue}
use Rattle.xl_core.specs.Node.{at_moment}
use Rattle.xl_core.specs.Replies.{done_answer, save_in}
use Rattle.xl_store.specs.Outcomes.{outcome_in}
use Rattle.xl_store.proofs.Noting.{same_in, issue_counted, issue_with}
use Rattle.xl_store.proofs.Turning.{answers_home}
use Rattle.xl_store.proofs.home.Home.issue.Goals as goal

pub returns : goal.returns
returns g c =
    let done = c.issue.ensures in
    answers_home g.K.Keeper.held g.K.Keeper.saves g.K.Keeper.faults g.K.Keeper.save_gives c.args.self.now _ (Issue c.args.now c.args.seq c.args.id c.args.full)
    (save_in c.issue.result) (outcome_in c.issue.result) (done_answer c.issue.result) c.requires.moment (same_in c.issue.result)
    (issue_with c.issue.result (at_moment c.args.now c.args.self.now.core.node) c.args.seq c.args.id c.args.full
    (save_in c.issue.result) refl done.step.answer) done.step
    (record { held = done.held; saves = done.saves; keeper = done.keeper; later = done.later })
    (issue_counted c.issue.result _ _ done.fault) refl
