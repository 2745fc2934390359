-- Where the keys of a ring are from. Source: what the code of this crate keeps. No public clause cites this file.
use Rattle.std.specs.Prelude.{◌≡◌, ℕ, ◌-◌, ◌==◌, Bool, List, length, map, Option, None, slice_index_or, if◌then◌else◌}
use Rattle.std.specs.List.{range_with_len}
use Rattle.std.specs.Option.{option_or}
use Rattle.xl_tags.specs.Rings.{Ring, schedule_key}

-- the key of a number among those that were put
abbrev pub put_at : List (Option (List ℕ)) → ℕ → Option (List ℕ)
put_at put m = if m == 0 then None else slice_index_or put (m - 1) None

-- the key that a schedule gives, if the keys are a schedule's
abbrev pub made_for : ℕ → Bool → ℕ → Option (List ℕ)
made_for me of_schedule m = if of_schedule then schedule_key me m else None

-- the key of a number: the one that was put, or else the one that a schedule gives
abbrev pub held_key : ℕ → Bool → List (Option (List ℕ)) → ℕ → Option (List ℕ)
held_key me of_schedule put m = option_or (put_at put m) (made_for me of_schedule m)

unfoldable pub keys_from : ℕ → Bool → List (Option (List ℕ)) → List (Option (List ℕ))
keys_from me of_schedule put = map (held_key me of_schedule put) (range_with_len 1 64)

abbrev pub ring_from : ℕ → Bool → List (Option (List ℕ)) → Ring
ring_from me of_schedule put = record { me = me; keys = keys_from me of_schedule put }

-- there is a place for each member, and no key was put for one's own
pub record IsSource (me : ℕ) (put : List (Option (List ℕ))) : Type 0 where
  pub places : length put ≡ 64
  pub own : put_at put me ≡ None
