-- A pair's key doesn't depend on who is named first.
use Rattle.std.proofs.Common.{◌≡◌, ℕ, List, min, max, ◌++◌, [], ◌∷◌, ap, ◌∙◌}
use Rattle.std.proofs.Math.Nat.{min_comm, max_comm}
use Rattle.std.specs.Int.{w32, to_be_bytes}
use Rattle.sha2.specs.Sha256.{sha256}
use Rattle.xl_tags.specs.PairKeys.{pair_key_of}

-- the hash of the parts is the key
pub pair_hashed : (a b lesser greater : ℕ) (low high : List ℕ) → lesser ≡ min a b → greater ≡ max a b → low ≡ to_be_bytes w32 lesser
    → high ≡ to_be_bytes w32 greater
    → sha256 (0x58 ∷ 0x4C ∷ 0x4B ∷ 0x59 ∷ (low ++ high)) ≡ pair_key_of a b
pair_hashed a b lesser greater low high p q s t =
    ap (λ (x : List ℕ). sha256 (0x58 ∷ 0x4C ∷ 0x4B ∷ 0x59 ∷ (x ++ high))) (s ∙ ap (to_be_bytes w32) p)
    ∙ ap (λ (x : List ℕ). sha256 (0x58 ∷ 0x4C ∷ 0x4B ∷ 0x59 ∷ (to_be_bytes w32 (min a b) ++ x))) (t ∙ ap (to_be_bytes w32) q)

pub pair_key_of-comm : (a b : ℕ) → pair_key_of a b ≡ pair_key_of b a
pair_key_of-comm a b = ap (λ (n : ℕ). sha256 ((0x58 ∷ 0x4C ∷ 0x4B ∷ 0x59 ∷ []) ++ to_be_bytes w32 n ++ to_be_bytes w32 (max a b))) (min_comm a b)
    ∙ ap (λ (n : ℕ). sha256 ((0x58 ∷ 0x4C ∷ 0x4B ∷ 0x59 ∷ []) ++ to_be_bytes w32 (min b a) ++ to_be_bytes w32 n)) (max_comm a b)
