use Rattle.std.proofs.Common.{sym, subst}
use Rattle.xl_core.specs.Node.{opened_node}
use Rattle.xl_core.specs.Stops.{IsCovered}
use Rattle.xl_core.proofs.Opening.{emptied}
use Rattle.xl_core.proofs.Stopping.{opened_covered}
use Rattle.xl_core.proofs.Marking.{none_marked}
use Rattle.xl_core.proofs.the_core.Core.open.Goals as goal

pub returns-clause-stop : goal.returns-clause-stop
returns-clause-stop g c = λ held holds.
    subst (IsCovered held) (sym (emptied c.in_ok-node.node (opened_node c.args.settings c.args.now c.args.kept) c.in_ok-waiting.waiting c.in_ok-untaken.untaken c.in_ok-node.ensures c.in_ok-waiting.ensures.empty c.in_ok-untaken.ensures.empty))
    (opened_covered held c.args.settings c.args.now c.args.kept holds)

pub invariant_of-result : goal.invariant_of-result
invariant_of-result g c = none_marked c.in_ok-waiting.waiting c.in_ok-waiting.ensures.empty
