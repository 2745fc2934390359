use Rattle.std.proofs.Common.{[], ◌∷◌, ◌++◌, take}
use Rattle.sha2.specs.Hashers.{Holds512}
use Rattle.xl_base.specs.Sets.{id_bytes}
use Rattle.xl_base.proofs.sets.set_id.Given as goal

-- the hasher holds the prefix and the ids so far
abbrev pub invariant-loop-id : goal.invariant-loop-id
invariant-loop-id l = Holds512 l.hasher ((0x54 ∷ 0x58 ∷ 0x53 ∷ 0 ∷ []) ++ id_bytes (take l.id-index l.ids))
