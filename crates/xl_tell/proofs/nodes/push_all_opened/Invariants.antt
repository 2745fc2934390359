use Rattle.std.proofs.Common.{◌≡◌, ◌++◌, take}
use Rattle.std.specs.List.{flat_map}
use Rattle.std.specs.String.{string_bytes}
use Rattle.xl_tell.specs.Nodes.{opened_in}
use Rattle.xl_world.specs.World.{core_in}
use Rattle.xl_tell.proofs.nodes.push_all_opened.Given as goal

-- the nodes so far
abbrev pub invariant-loop-number : goal.invariant-loop-number
invariant-loop-number l = string_bytes l.text ≡ string_bytes l.initial.text ++ flat_map (λ i. opened_in l.reader.names i (core_in l.world i)) (take l.number-index l.number-items)
