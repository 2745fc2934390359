-- Ids of ledgers, sets and transactions. Source: rippled, which compares them byte for byte.
use Rattle.std.specs.Prelude.{◌≡◌, ℕ, Bool, List, [], ◌∷◌, drop, length}
use Rattle.hex.specs.Hex.{IsBytes}
use Rattle.byteorder.specs.Endian.{big_number}
use Rattle.std.specs.Str.{bytes_eq}
use Rattle.xl_base.specs.declared.ids.LedgerId.{LedgerId}

-- an id is 32 bytes
abbrev pub IsId : List ℕ → Type 0
IsId id = (length id ≡ 32) × IsBytes id

-- whether two ids have the same bytes
abbrev pub same_id : LedgerId → LedgerId → Bool
same_id a b = bytes_eq a.0 b.0

-- the bytes of an id as four numbers, the first byte being the highest
abbrev pub words_of : List ℕ → List ℕ
words_of id = big_number 8 id ∷ big_number 8 (drop 8 id) ∷ big_number 8 (drop 16 id) ∷ big_number 8 (drop 24 id) ∷ []
