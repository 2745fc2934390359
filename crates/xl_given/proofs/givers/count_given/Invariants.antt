use Rattle.std.proofs.Common.{◌≡◌, ◌≤◌, List, take}
use Rattle.xl_given.specs.Given.{Noted, count_given}
use Rattle.xl_given.specs.Kept.{IsKept}
use Rattle.xl_given.proofs.givers.count_given.Given as goal

-- those among the first frames were counted
abbrev pub invariant-loop-place : goal.invariant-loop-place
invariant-loop-place l =
    (l.count ≤ l.place) × ((given : List Noted) → IsKept l.givers given → l.count ≡ count_given given (take l.place l.heard))
