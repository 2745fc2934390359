use Rattle.std.proofs.Common.{length, ◌-◌, ◌≡◌}
use Rattle.xl_keep.proofs.system.read_whole.Given as goal

abbrev pub invariant-loop-filled : goal.invariant-loop-filled
invariant-loop-filled g l = length l.room ≡ length l.initial.room

-- proposed from the loop's first test
abbrev pub decreases-loop-filled : goal.decreases-loop-filled
decreases-loop-filled g l = length l.initial.room - l.filled
