use Rattle.std.proofs.Common.{sym, subst}
use Rattle.xl_core.specs.Core.{Core}
use Rattle.xl_core.specs.Stops.{IsCovered}
use Rattle.xl_core.proofs.Concluding.{submitted_covered, refused_covered}
use Rattle.xl_core.proofs.the_core.Core.submit.Goals as goal

pub returns-in_err-submit-clause-stop : goal.returns-in_err-submit-clause-stop
returns-in_err-submit-clause-stop g c = λ held was.
    let old : Core = record { node = c.self.inside.node; waiting = c.self.inside.waiting; greetings = c.self.inside.greetings; untaken = c.self.inside.untaken; stopped = c.self.inside.stopped } in
    refused_covered held old c.args.now c.args.tx c.submit.new.self c.in_err-submit.field-0.0 c.in_err-submit.ensures.exact (subst (IsCovered held) (sym c.self.view_is) was)

pub returns-clause-stop : goal.returns-clause-stop
returns-clause-stop g c = λ held was.
    let old : Core = record { node = c.self.inside.node; waiting = c.self.inside.waiting; greetings = c.self.inside.greetings; untaken = c.self.inside.untaken; stopped = c.self.inside.stopped } in
    submitted_covered held old c.args.now c.args.tx c.submit.new.self c.push.new.waiting c.in_ok-submit.ensures.exact c.push.ensures.pushed (subst (IsCovered held) (sym c.self.view_is) was)

pub invariant_of-self-2 : goal.invariant_of-self-2
invariant_of-self-2 g c = c.push.ensures.marks c.self.inside.greetings c.self.invariant
