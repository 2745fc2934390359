use Rattle.std.proofs.Common.{◌≡◌, length}
use Rattle.xl_core.specs.Core.{all_frames}
use Rattle.xl_world.specs.Ends.{IsLonger}
use Rattle.xl_world.proofs.Drains.{IsLeft}
use Rattle.xl_world.proofs.draining.drain_greeted.Given as goal

-- what is left to drain leaves what all drains leave
abbrev pub invariant-loop-count : goal.invariant-loop-count
invariant-loop-count l =
    IsLeft l.initial.core l.to l.initial.traffic l.core l.traffic × (l.from ≡ l.initial.core.node.me)
    × IsLonger l.initial.traffic.frames l.traffic.frames

abbrev pub decreases-loop-count : goal.decreases-loop-count
decreases-loop-count l = length (all_frames l.core l.to)
