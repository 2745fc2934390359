-- How the ids of a set lie in bytes. Source: the layout of frames, this profile's own.
use Rattle.std.specs.Prelude.{ℕ, zero, suc, ◌+◌, List, [], ◌∷◌, take, drop, Option, Some, None, if◌then◌else◌}
use Rattle.xl_base.specs.declared.ids.TxId.{TxId}
use Rattle.xl_base.specs.Sets.{is_below}

-- this many ids of 32 bytes that the bytes begin with
abbrev pub ids_in : ℕ → List ℕ → List TxId
ids_in zero bytes = []
ids_in (suc count) bytes = record { 0 = take 32 bytes } ∷ ids_in count (drop 32 bytes)

abbrev pub fall_from : ℕ → TxId → List TxId → Option ℕ
fall_from place a [] = None
fall_from place a (b ∷ ids) = if is_below a b then fall_from (place + 1) b ids else Some place

-- the place of the first id that isn't greater than the one before
abbrev pub first_fall : List TxId → Option ℕ
first_fall [] = None
first_fall (a ∷ ids) = fall_from 1 a ids
