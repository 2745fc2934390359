use Rattle.std.proofs.Common.{◌≡◌, ◌+◌, [], false, length}
use Rattle.std.specs.Prelude.{if◌then◌else◌}
use Rattle.xl_world.specs.Ends.{IsLonger}
use Rattle.xl_world.proofs.Itemwise.{IsSending, waits}
use Rattle.xl_world.proofs.draining.send_waiting.Given as goal

-- what is left to send leaves what all of it leaves, and if no more is, nothing waits
abbrev pub invariant-loop-more : goal.invariant-loop-more
invariant-loop-more l =
    IsSending l.initial.core l.to l.initial.traffic l.core l.traffic × IsLonger l.initial.traffic.frames l.traffic.frames
    × (l.more ≡ false → waits l.core l.to ≡ [])

abbrev pub decreases-loop-more : goal.decreases-loop-more
decreases-loop-more l = length (waits l.core l.to) + (if l.more then 1 else 0)
