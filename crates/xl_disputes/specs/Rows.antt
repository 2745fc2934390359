-- The index: the ids of our own set and of the held sets in rising order, each once, with what it has.
-- Source: what the code of this crate keeps. No public clause cites this file.
use Rattle.std.specs.Prelude.{◌≡◌, ℕ, ◌+◌, ◌<◌, ◌≤◌, ◌==◌, nat_lt, Bool, true, false, List, [], ◌∷◌, length, drop, map, slice_index_or, All, if◌then◌else◌}
use Rattle.std.specs.List.{prefix_len}
use Rattle.std.specs.Str.{bytes_eq}
use Rattle.xl_base.specs.Sets.{is_below, IsRising}
use Rattle.xl_base.specs.declared.ids.TxId.{TxId}
use Rattle.xl_disputes.specs.declared.rows.Row.{Row}
use Rattle.xl_disputes.specs.Disputes.{has}
use Rattle.xl_disputes.specs.Tallies.{Tally, no_tally, held_by, exchanged, IsWithin, IsFitting, IsWhole}

abbrev pub is_same : TxId → TxId → Bool
is_same a b = bytes_eq a.0 b.0

abbrev pub ids_of : List Row → List TxId
ids_of rows = map (λ row. row.id) rows

-- what an id has
abbrev pub tally_of : List Row → TxId → Tally
tally_of [] tx = no_tally
tally_of (row ∷ rows) tx = if is_same row.id tx then row.tally else tally_of rows tx

-- whether a row's id is in a set
abbrev pub is_held : Row → Bool
is_held row = nat_lt 0 (held_by row.tally)

-- the ids rise, and each is in a set
pub record IsIndex (rows : List Row) : Type 0 where
  pub rising : IsRising (ids_of rows)
  pub counted : All (λ row. 0 < held_by row.tally) rows

-- an id before others, unless it is in no set
abbrev pub put : TxId → Tally → List Row → List Row
put tx tally rows = if held_by tally == 0 then rows else (record { id = tx; tally = tally } ∷ rows)

-- with one part of what an id has taken out, and another put in
abbrev pub with_exchange : TxId → Tally → Tally → List Row → List Row
with_exchange tx from to [] = put tx (exchanged from to no_tally) []
with_exchange tx from to (row ∷ rows) =
    if is_below row.id tx
    then row ∷ with_exchange tx from to rows
    else (if is_below tx row.id
    then put tx (exchanged from to no_tally) (row ∷ rows)
    else put tx (exchanged from to row.tally) rows)

-- whether an id is below the first of some, if there is one
abbrev pub goes_before : TxId → List TxId → Bool
goes_before tx [] = true
goes_before tx (id ∷ ids) = is_below tx id

-- how many rows stand before an id
abbrev pub place_of : TxId → List Row → ℕ
place_of tx rows = prefix_len (λ row. is_below row.id tx) rows

-- the id stands there
pub record IsThere (tx : TxId) (rows : List Row) (place : ℕ) : Type 0 where
  pub is : place ≡ place_of tx rows
  pub within : place < length rows
  pub same : (d : Row) → is_same (slice_index_or rows place d).id tx ≡ true

-- it doesn't stand there, but would
pub record IsAbsent (tx : TxId) (rows : List Row) (place : ℕ) : Type 0 where
  pub is : place ≡ place_of tx rows
  pub above : goes_before tx (ids_of (drop place rows)) ≡ true

-- one part can be taken out of what each of some ids has, and another put in
pub record IsExchangeable (rows : List Row) (ids : List TxId) (from to : Tally) : Type 0 where
  pub within : (tx : TxId) → has ids tx ≡ true → IsWithin from (tally_of rows tx)
  pub fitting : (tx : TxId) → has ids tx ≡ true → IsFitting (exchanged from to (tally_of rows tx))
  pub whole : (tx : TxId) → has ids tx ≡ true → IsWhole (exchanged from to (tally_of rows tx))
  pub room : held_by from ≡ 0 → length rows + length ids ≤ 16640

-- it was
pub record Exchanges (old new : List Row) (ids : List TxId) (from to : Tally) : Type 0 where
  pub index : IsIndex new
  pub each : (tx : TxId) →
      tally_of new tx ≡ (if has ids tx then exchanged from to (tally_of old tx) else tally_of old tx)
  pub few : length new ≤ length old + length ids

-- ---- a part goes from the ids of one set to those of another

-- of rising ids those that aren't below one
abbrev pub not_below : TxId → List TxId → List TxId
not_below tx ids = drop (prefix_len (λ id. is_below id tx) ids) ids

-- whether an id is the first of some
abbrev pub is_first : TxId → List TxId → Bool
is_first tx [] = false
is_first tx (id ∷ ids) = bytes_eq id.0 tx.0

-- the part of an id of a set, and nothing of another
abbrev pub part_of : List TxId → Tally → TxId → Tally
part_of ids part tx = if has ids tx then part else no_tally

abbrev pub moved : List TxId → List TxId → Tally → Row → Row
moved from to part row = record row { tally = exchanged (part_of from part row.id) (part_of to part row.id) row.tally }

-- it can go, and each id that it goes to has a row
pub record IsMovable (rows : List Row) (from to : List TxId) (part : Tally) : Type 0 where
  pub there : (tx : TxId) → has to tx ≡ true → has (ids_of rows) tx ≡ true
  pub within : (tx : TxId) → IsWithin (part_of from part tx) (tally_of rows tx)
  pub fitting : (tx : TxId) → IsFitting (exchanged (part_of from part tx) (part_of to part tx) (tally_of rows tx))
  pub whole : (tx : TxId) → IsWhole (exchanged (part_of from part tx) (part_of to part tx) (tally_of rows tx))

-- it went
pub record Moves (old new : List Row) (from to : List TxId) (part : Tally) : Type 0 where
  pub index : IsIndex new
  pub each : (tx : TxId) → tally_of new tx ≡ exchanged (part_of from part tx) (part_of to part tx) (tally_of old tx)
