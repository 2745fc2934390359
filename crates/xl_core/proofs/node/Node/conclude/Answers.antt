use Rattle.xl_core.specs.Node.{Node}
use Rattle.xl_core.specs.Rest.{node_seen}
use Rattle.xl_core.proofs.Switching.{still_known, concluded_ready}
use Rattle.xl_core.proofs.node.Node.conclude.Goals as goal

pub start-requires-clause-known : goal.start-requires-clause-known
start-requires-clause-known g c =
    still_known c.args.self.now c.validate-outcome.new.self (node_seen c.self.inside) c.args.built.now c.validate-outcome.result c.self.view_is c.validate-outcome.ensures.exact c.requires.built.known

pub invariant_of-self : goal.invariant_of-self
invariant_of-self g c =
    let n : Node = node_seen c.self.inside in
    let known = still_known c.args.self.now c.validate-outcome.new.self n c.args.built.now c.validate-outcome.result c.self.view_is c.validate-outcome.ensures.exact c.requires.built.known in (
      concluded_ready n c.args.built.now.ledger c.usual_mode-mode.result c.start.new.self c.start.ensures.setting known c.self.invariant.0,
      c.self.invariant.1,
      c.self.invariant.2,
    )
