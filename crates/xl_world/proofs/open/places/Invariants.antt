use Rattle.std.proofs.Common.{◌≡◌, take}
use Rattle.std.specs.Prelude.{map}
use Rattle.xl_world.specs.Starts.{start_of}
use Rattle.xl_world.specs.Plans.{AreDeclared}
use Rattle.xl_world.proofs.open.places.Given as goal

-- the nodes so far stand at their places, and their lists are lists
abbrev pub invariant-loop-node : goal.invariant-loop-node
invariant-loop-node l = (l.places.items ≡ map (start_of (record { limit = l.limit; speak = l.speak })) (take l.node-index l.nodes)) × AreDeclared (take l.node-index l.nodes)
