use Rattle.std.proofs.Common.{◌≡◌, ◌≤◌, ◌-◌, ℕ, List, drop, length}
use Rattle.xl_core.specs.Queues.{stream_of}
use Rattle.xl_world.specs.Ends.{IsLonger}
use Rattle.xl_world.specs.Seen.{AreFrames}
use Rattle.xl_world.proofs.Drains.{IsUnsent}
use Rattle.xl_world.proofs.draining.send_each.Given as goal

-- whichever frames they are, those that are left stand one behind the other from this place on
abbrev pub invariant-loop-length : goal.invariant-loop-length
invariant-loop-length l =
    (l.at ≤ length l.frames)
    × ((each : List (List ℕ)) → AreFrames each → l.frames ≡ stream_of each → IsUnsent l.from l.to each l.initial.traffic (drop l.at l.frames) l.traffic)
    × IsLonger l.initial.traffic.frames l.traffic.frames

abbrev pub decreases-loop-length : goal.decreases-loop-length
decreases-loop-length l = length l.frames - l.at
