-- Sets of transactions, and the ids that name them.
-- Source: rippled, whose ledgers name their set of transactions by a half hash; the layout and 256 are this profile's.
use Rattle.std.specs.Prelude.{ℕ, ◌≤◌, Bool, List, [], ◌∷◌, ◌++◌, length, IsTrue}
use Rattle.std.specs.Ordering.{nat_cmp, is_lt}
use Rattle.std.specs.Cmp.Lexicographic.{slice_cmp}
use Rattle.std.specs.List.{flat_map}
use Rattle.xl_base.specs.Hashes.{half}
use Rattle.xl_base.specs.declared.ids.TxId.{TxId}
use Rattle.xl_base.specs.declared.ids.SetId.{SetId}

-- at the first byte where they differ the first list has the lower one
abbrev pub comes_before : List ℕ → List ℕ → Bool
comes_before a b = is_lt (slice_cmp nat_cmp a b)

abbrev pub is_below : TxId → TxId → Bool
is_below a b = comes_before a.0 b.0

abbrev pub RisesFrom : TxId → List TxId → Type 0
RisesFrom a [] = Unit {0}
RisesFrom a (b ∷ ids) = IsTrue (is_below a b) × RisesFrom b ids

-- each id is below the next
abbrev pub IsRising : List TxId → Type 0
IsRising [] = Unit {0}
IsRising (a ∷ ids) = RisesFrom a ids

-- the most ids of a set
abbrev pub most_ids : ℕ
most_ids = 256

-- what is true of every set
pub record IsSet (ids : List TxId) : Type 0 where
  pub rising : IsRising ids
  pub at_most : length ids ≤ most_ids

-- one id after the other
abbrev pub id_bytes : List TxId → List ℕ
id_bytes ids = flat_map (λ id. id.0) ids

-- the half hash of `TXS`, a zero byte, and the ids
abbrev pub set_id_of : List TxId → SetId
set_id_of ids = record { 0 = half ((0x54 ∷ 0x58 ∷ 0x53 ∷ 0 ∷ []) ++ id_bytes ids) }
