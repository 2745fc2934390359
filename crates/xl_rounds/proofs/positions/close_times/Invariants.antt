use Rattle.std.proofs.Common.{◌-◌, ◌≤◌}
use Rattle.xl_rounds.proofs.PositionLaws.{AreWritten}
use Rattle.xl_rounds.proofs.positions.close_times.Given as goal

-- the times of the positions so far lie in the front of the room
abbrev pub invariant-loop-place : goal.invariant-loop-place
invariant-loop-place l = (l.place ≤ 64) × AreWritten l.members l.place l.len l.room

abbrev pub decreases-loop-place : goal.decreases-loop-place
decreases-loop-place l = 64 - l.place
