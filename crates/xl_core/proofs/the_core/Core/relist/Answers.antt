-- the core's step is its node's, and of the own row a list that is set keeps what was there, so it stays covered
use Rattle.std.proofs.Common.{sym, subst}
use Rattle.xl_core.specs.declared.event.CoreEvent.TheVariants as event
use Rattle.xl_core.specs.Answers.{Refused, Done}
use Rattle.xl_core.specs.Node.{Relist, happens}
use Rattle.xl_core.specs.Issuing.Save.{Kept}
use Rattle.xl_core.specs.Core.{Core, core_happens}
use Rattle.xl_core.specs.Replies.{Answers}
use Rattle.xl_core.specs.Stops.{IsCovered}
use Rattle.xl_core.proofs.Stepping.{list_step, refused_step}
use Rattle.xl_core.proofs.Stopping.{relist_covered}
use Rattle.xl_core.proofs.the_core.Core.relist.Goals as goal

pub returns-in-Ok-clause-step : goal.returns-in-Ok-clause-step
returns-in-Ok-clause-step g c =
    let old : Core = record { node = c.self.inside.node; waiting = c.self.inside.waiting; greetings = c.self.inside.greetings; untaken = c.self.inside.untaken; stopped = c.self.inside.stopped } in
    let new : Core = record { node = c.relist.new.self; waiting = c.self.inside.waiting; greetings = c.self.inside.greetings; untaken = c.push_report.new.untaken; stopped = c.self.inside.stopped } in
    subst (λ (a : Core). Answers (core_happens a (event.Relist c.args.now c.args.list) Kept) new Done) c.self.view_is
    (list_step old c.relist.new.self c.in-Ok.report c.push_report.new.untaken (happens c.self.inside.node (Relist c.args.now c.args.list) Kept) c.in-Ok.ensures.exact c.push_report.ensures)

pub returns-in-Ok-clause-stop : goal.returns-in-Ok-clause-stop
returns-in-Ok-clause-stop g c = λ held was.
    subst (IsCovered held) (sym (returns-in-Ok-clause-step g c).core) (relist_covered held c.args.self.now c.args.now c.args.list Kept was)

pub returns-in-Err-clause-step : goal.returns-in-Err-clause-step
returns-in-Err-clause-step g c =
    let old : Core = record { node = c.self.inside.node; waiting = c.self.inside.waiting; greetings = c.self.inside.greetings; untaken = c.self.inside.untaken; stopped = c.self.inside.stopped } in
    let new : Core = record { node = c.relist.new.self; waiting = c.self.inside.waiting; greetings = c.self.inside.greetings; untaken = c.self.inside.untaken; stopped = c.self.inside.stopped } in
    subst (λ (a : Core). Answers (core_happens a (event.Relist c.args.now c.args.list) Kept) new (Refused c.in-Err.why)) c.self.view_is
    (refused_step old c.relist.new.self c.in-Err.why (happens c.self.inside.node (Relist c.args.now c.args.list) Kept) c.in-Err.ensures.exact)

pub returns-in-Err-clause-stop : goal.returns-in-Err-clause-stop
returns-in-Err-clause-stop g c = λ held was.
    subst (IsCovered held) (sym (returns-in-Err-clause-step g c).core) (relist_covered held c.args.self.now c.args.now c.args.list Kept was)
