use Rattle.std.proofs.Common.{◌≡◌, take}
use Rattle.std.specs.Prelude.{map}
use Rattle.xl_world.specs.Starts.{list_of}
use Rattle.xl_world.proofs.open.lists.Given as goal

abbrev pub invariant-loop-node : goal.invariant-loop-node
invariant-loop-node l = l.lists.items ≡ map list_of (take l.node-index l.nodes)
