use Rattle.std.proofs.Common.{take}
use Rattle.xl_given.specs.Kept.{IsKept}
use Rattle.xl_given.proofs.givers.givers_of.Given as goal

-- the first givers of the first frames are kept
abbrev pub invariant-loop-place : goal.invariant-loop-place
invariant-loop-place l = IsKept l.givers (take l.place l.given)
