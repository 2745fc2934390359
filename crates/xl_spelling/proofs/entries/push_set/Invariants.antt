use Rattle.std.proofs.Common.{◌≡◌, ◌++◌, ◌∷◌, take}
use Rattle.std.specs.List.{flat_map, All}
use Rattle.hex.specs.Hex.{encode_lower}
use Rattle.xl_base.specs.Ids.{IsId}
use Rattle.xl_spelling.proofs.entries.push_set.Given as goal

-- the ids so far
abbrev pub invariant-loop-other : goal.invariant-loop-other
invariant-loop-other l =
    (l.room.items ≡ l.initial.room.items ++ flat_map (λ id. 44 ∷ encode_lower id.0) (take l.other-index l.others)) × All (λ id. IsId id.0) (take l.other-index l.others)
