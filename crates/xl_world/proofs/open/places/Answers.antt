use Rattle.std.proofs.Common.{◌∙◌, arith}
use Rattle.xl_world.specs.Starts.{start_of}
use Rattle.xl_world.specs.Plans.{IsDeclared}
use Rattle.xl_world.proofs.Each.{all_more, map_more}
use Rattle.xl_world.proofs.open.places.Goals as goal

pub loop-node-preserved : goal.loop-node-preserved
loop-node-preserved c = (
  c.in_ok-push.ensures.items
      ∙ map_more (start_of (record { limit = c.args.limit; speak = c.args.speak })) c.args.nodes.now c.loop-node.node-index c.node-item.result c.loop-node.places.items c.in_ok-place.field-0 c.loop-node-test.true c.node-item.is c.loop-node.invariant.0 c.in_ok-place.ensures,
  all_more IsDeclared c.args.nodes.now c.loop-node.node-index c.node-item.result c.loop-node-test.true c.node-item.is c.loop-node.invariant.1 (record { least = omega (arith, c.get.ensures.value, c.get.ensures.first); greatest = omega (arith, c.get.ensures.value, c.get.ensures.last); list = c.quorum.ensures.valid }),
)
