use Rattle.std.proofs.Common.{◌≡◌, take}
use Rattle.xl_told.proofs.hashed.are_listed.Given as goal

abbrev pub invariant-loop-i : goal.invariant-loop-i
invariant-loop-i l = take l.i l.list ≡ take l.i l.ids
