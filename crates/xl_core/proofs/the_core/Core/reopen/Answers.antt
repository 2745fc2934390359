use Rattle.std.proofs.Common.{List, Option, false, sym, subst}
use Rattle.xl_core.specs.declared.the_core.greeting.Greeting.{Greeting}
use Rattle.xl_core.specs.Marks.{AreMarks}
use Rattle.xl_core.specs.Node.{opened_node, settings_of}
use Rattle.xl_core.specs.Stops.{IsCovered}
use Rattle.xl_core.proofs.Opening.{emptied}
use Rattle.xl_core.proofs.Stopping.{opened_covered}
use Rattle.xl_core.proofs.Marking.{none_marked}
use Rattle.xl_core.proofs.the_core.Core.reopen.Goals as goal

pub returns-clause-stop : goal.returns-clause-stop
returns-clause-stop g c = λ held holds.
    let settings = settings_of c.self.inside.node in
    subst (λ (gs : List (Option Greeting)). IsCovered held (record { node = c.reopen.new.self; waiting = c.reset.new.self; greetings = gs; untaken = c.reset-2.new.self; stopped = false })) (sym c.forget.ensures)
    (subst (IsCovered held) (sym (emptied c.reopen.new.self (opened_node settings c.args.now c.args.kept) c.reset.new.self c.reset-2.new.self c.in_ok-reopen.ensures.opened c.reset.ensures.empty c.reset-2.ensures.empty))
    (opened_covered held settings c.args.now c.args.kept holds))

pub invariant_of-self-2 : goal.invariant_of-self-2
invariant_of-self-2 g c = subst (λ (gs : List (Option Greeting)). AreMarks 0 gs c.reset.new.self) (sym c.forget.ensures) (none_marked c.reset.new.self c.reset.ensures.empty)

pub forget-requires : goal.forget-requires
forget-requires g c = (c.self.inside.waiting, c.self.invariant)
