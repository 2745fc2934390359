use Rattle.std.proofs.Common.{◌∙◌, ap}
use Rattle.xl_core.specs.Node.{Node, at_moment}
use Rattle.xl_core.specs.Rest.{node_seen}
use Rattle.xl_core.proofs.Expiring.{ready_after, same_second}
use Rattle.xl_core.proofs.node.Node.advance.Goals as goal

pub invariant_of-self : goal.invariant_of-self
invariant_of-self g c = (
  ready_after c.args.now (node_seen c.self.inside) c.max-self-inside.result c.secs_of-now.result c.expire.new.self.rows c.requires c.max-self-inside.ensures c.secs_of-now.ensures c.expire.ensures.rows c.self.invariant.0,
  c.expire.ensures.tally,
  c.expire.ensures.me ∙ c.self.invariant.2,
)

pub returns-else-now-second : goal.returns-else-now-second
returns-else-now-second g c =
    let n : Node = node_seen c.self.inside in
    same_second c.args.now n c.max-self-inside.result c.secs_of-second.result c.secs_of-now.result c.self.invariant.0 c.max-self-inside.ensures c.secs_of-second.ensures c.secs_of-now.ensures c.if-now-second.false
    ∙ ap (at_moment c.args.now) c.self.view_is
