use Rattle.std.proofs.Common.{◌≡◌, ◌≤◌, length}
use Rattle.xl_sched.specs.Tokens.{tokens}
use Rattle.xl_sched.proofs.tokens.without_blanks.Given as goal

abbrev pub invariant-loop-bytes : goal.invariant-loop-bytes
invariant-loop-bytes l = (tokens l.bytes ≡ tokens l.initial.bytes) × (length l.bytes ≤ length l.initial.bytes)

abbrev pub decreases-loop-bytes : goal.decreases-loop-bytes
decreases-loop-bytes l = length l.bytes
