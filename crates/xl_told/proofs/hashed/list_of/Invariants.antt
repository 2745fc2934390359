use Rattle.std.proofs.Common.{◌≡◌, take}
use Rattle.xl_told.proofs.hashed.list_of.Given as goal

abbrev pub invariant-loop-i : goal.invariant-loop-i
invariant-loop-i l = l.list.items ≡ take l.i l.ids
