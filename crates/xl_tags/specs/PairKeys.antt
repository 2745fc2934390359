-- The keys of a schedule's pairs of members, which need no secret. Source: this project's own.
use Rattle.std.specs.Prelude.{ℕ, List, [], ◌∷◌, ◌++◌, min, max}
use Rattle.std.specs.Int.{w32, to_be_bytes}
use Rattle.sha2.specs.Sha256.{sha256}

-- `XLKY`, and the numbers of the two members, the lesser first
abbrev pub pair_bytes : ℕ → ℕ → List ℕ
pair_bytes a b = (0x58 ∷ 0x4C ∷ 0x4B ∷ 0x59 ∷ []) ++ to_be_bytes w32 (min a b) ++ to_be_bytes w32 (max a b)

abbrev pub pair_key_of : ℕ → ℕ → List ℕ
pair_key_of a b = sha256 (pair_bytes a b)
