use Rattle.std.proofs.Common.{List, take}
use Rattle.xl_given.specs.Given.{Noted}
use Rattle.xl_given.specs.Kept.{IsKept, IsKeptByEntry}
use Rattle.xl_given.proofs.by_entry.givers_by_entry.Given as goal

-- the first givers of the first frames are kept
abbrev pub invariant-loop-place : goal.invariant-loop-place
invariant-loop-place l =
    (given : List Noted) → IsKept l.givers given → IsKeptByEntry l.found given (take l.place l.heard)
