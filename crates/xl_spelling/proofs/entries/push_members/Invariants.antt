use Rattle.std.proofs.Common.{◌≡◌, ◌++◌, ◌∷◌, take, decimal}
use Rattle.std.specs.List.{flat_map}
use Rattle.xl_spelling.proofs.entries.push_members.Given as goal

-- the numbers so far
abbrev pub invariant-loop-other : goal.invariant-loop-other
invariant-loop-other l = l.room.items ≡ l.initial.room.items ++ flat_map (λ m. 44 ∷ decimal m) (take l.other-index l.others)
