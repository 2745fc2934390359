use Rattle.std.proofs.Common.{◌≡◌, ◌+◌, ◌≤◌, length}
use Rattle.xl_sched.specs.Limits.{most_bytes}
use Rattle.xl_sched.proofs.tokens.Tokens.count.Given as goal

abbrev pub invariant-loop-left : goal.invariant-loop-left
invariant-loop-left l = (l.count + length l.left ≡ length l.initial.left) × (length l.initial.left ≤ most_bytes + 1)

abbrev pub decreases-loop-left : goal.decreases-loop-left
decreases-loop-left l = length l.left
