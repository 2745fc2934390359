-- What is told of the calls of a link or a hub, first to last. Source: this project's own.
use Rattle.std.specs.Prelude.{◌≡◌, ℕ, ◌-◌, ◌==◌, ◌⊎◌, List, [], ◌∷◌, ◌++◌, Some, None, option_map, vec_len, vec_capacity, if◌then◌else◌}
use Rattle.std.specs.declared.option.Option.{Option}
use Rattle.xl_links.specs.declared.told.Told.{Told}

-- what is told, and for how many more there is room
pub record Telling (A : Type 0) : Type 0 where
  pub told : Option (List A)
  pub room : ℕ

module _ {A : Type 0} where
  -- what is told, and then these
  abbrev pub append_told : Option (List A) → List A → Option (List A)
  append_told told more = option_map (λ (items : List A). items ++ more) told

  -- these are the last of all, unless they aren't told any more
  abbrev pub AddsTold : Option (List A) → Option (List A) → List A → Type 0
  AddsTold old new more = (new ≡ None) ⊎ (new ≡ append_told old more)

  -- nothing yet
  abbrev pub nothing_told : ℕ → Telling A
  nothing_told room = record { told = Some []; room = room }

  -- one more; from the first one on for which there is no room, none is told
  abbrev pub with_told : Telling A → A → Telling A
  with_told telling item = record {
    told = if telling.room == 0 then None else append_told telling.told (item ∷ []);
    room = telling.room - 1;
  }

  -- what a list in memory tells
  abbrev pub telling_of : Told A → Telling A
  telling_of told = record {
    told = if told.whole then Some told.items.items else None;
    room = vec_capacity told.items - vec_len told.items;
  }
