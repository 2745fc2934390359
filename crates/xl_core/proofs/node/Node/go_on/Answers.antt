use Rattle.xl_core.proofs.Switching.{built_then}
use Rattle.xl_core.proofs.node.Node.go_on.Goals as goal

pub returns-in-Ready-clause-exact : goal.returns-in-Ready-clause-exact
returns-in-Ready-clause-exact g c =
    built_then c.args.self.now c.heartbeat-beat.new.self c.heartbeat-beat.result.kind c.heartbeat-beat.result.said c.in-Ready.moved_on c.build.new.part c.build.new.self c.in-Ready.is c.heartbeat-beat.ensures.after c.heartbeat-beat.ensures.told c.build.ensures.exact
