-- the nodes before this one
use Rattle.std.proofs.Common.{◌≡◌, ◌-◌}
use Rattle.std.specs.Prelude.{map}
use Rattle.xl_world.specs.Plans.{up_from}
use Rattle.xl_gen.specs.Schedule.{node_of}
use Rattle.xl_gen.proofs.generator.plan.Given as goal

abbrev pub invariant-loop-number : goal.invariant-loop-number
invariant-loop-number l = l.nodes.items ≡ map node_of (up_from 1 (l.number - 1))
