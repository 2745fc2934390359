-- The saves that a keeper in memory tells, in room that was taken when it was made. Source: this project's own, for
-- tests of what saves.
use Rattle.std.specs.Prelude.{ℕ, ◌-◌, ◌==◌, List, [], ◌∷◌, Option, Some, None, if◌then◌else◌}
use Rattle.std.specs.Io.KnownBytes.{append_known}

-- all numbers that were asked to be saved, first to last, if they are known, and for how many more there is room
pub record SaveList : Type 0 where
  pub told : Option (List ℕ)
  pub room : ℕ

-- none yet
abbrev pub no_saves : ℕ → SaveList
no_saves room = record { told = Some []; room = room }

-- one more; from the first one on for which there is no room, none is told
abbrev pub with_save : SaveList → ℕ → SaveList
with_save saves n = record {
  told = if saves.room == 0 then None else append_known saves.told (n ∷ []);
  room = saves.room - 1;
}
