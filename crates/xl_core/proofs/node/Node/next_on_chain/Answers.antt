use Rattle.std.proofs.Common.{◌∙◌, ap, sym, arith}
use Rattle.xl_ledger.specs.Chains.{seq_at}
use Rattle.xl_core.specs.Draining.{next_on}
use Rattle.xl_core.specs.Node.{Node}
use Rattle.xl_core.specs.Rest.{node_seen}
use Rattle.xl_core.proofs.Greeted.{past_end}
use Rattle.xl_core.proofs.node.Node.next_on_chain.Goals as goal

pub returns-then-greeting-seq_of-clause-value : goal.returns-then-greeting-seq_of-clause-value
returns-then-greeting-seq_of-clause-value g c =
    let n : Node = node_seen c.self.inside in
    past_end n.ledgers.headers c.args.greeting.now c.in_ok-target.target (sym c.find.ensures ∙ c.in_ok-target.was)
    (omega (arith, c.if-greeting-seq_of.true, c.seq_of.ensures.value, ap (λ w. seq_at w.ledgers.headers c.in_ok-target.target) c.walk-walk.ensures))
    ∙ ap (λ (m : Node). next_on m.ledgers.headers c.args.greeting.now) c.self.view_is
