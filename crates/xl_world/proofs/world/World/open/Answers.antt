use Rattle.xl_world.proofs.Worldly.{starts_well}
use Rattle.xl_world.proofs.world.World.open.Goals as goal

pub invariant_of-result : goal.invariant_of-result
invariant_of-result c = record {
  kept = starts_well c.in_ok-network.network (record { limit = c.args.plan.now.limit; speak = c.args.plan.now.speak }) c.args.plan.now.liars.items c.args.plan.now.nodes.items c.in_ok-network.ensures.start c.in_ok-network.ensures.declared;
  seats = λ going. c.in_ok-seats.ensures;
}
