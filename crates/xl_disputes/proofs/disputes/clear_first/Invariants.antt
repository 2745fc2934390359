use Rattle.std.proofs.Common.{◌≡◌, map, take, drop, ◌++◌, None}
use Rattle.xl_disputes.proofs.disputes.clear_first.Given as goal

-- the positions so far are gone, and the others are as they were
abbrev pub invariant-loop-place : goal.invariant-loop-place
invariant-loop-place l = l.positions ≡ map (λ _. None) (take l.place l.fn.positions) ++ drop l.place l.fn.positions
