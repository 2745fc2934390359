-- Where sent frames stand by their tags. Source: what the code of this crate keeps.
use Rattle.std.specs.Prelude.{◌≡◌, ℕ, ◌-◌, ◌<◌, ◌≤◌, Bool, true, false, List, [], ◌∷◌, ◌++◌, length, drop, get_or, slice_get, Option, Some, None}
use Rattle.std.specs.Str.{bytes_eq}
use Rattle.std.specs.Ordering.{nat_cmp}
use Rattle.std.specs.Cmp.Lexicographic.{slice_cmp}
use Rattle.std.specs.BTreeMap.{get_by}
use Rattle.xl_world.specs.declared.index.TagIndex.{TagIndex}
use Rattle.xl_world.specs.Sending.{Sent}

-- the last 32 bytes, or all if they are fewer
abbrev pub tag_in : List ℕ → List ℕ
tag_in bytes = drop (length bytes - 32) bytes

-- the place that is kept for a tag
abbrev pub place_of_tag : TagIndex → List ℕ → Option ℕ
place_of_tag index tag = get_by (slice_cmp nat_cmp tag) index.places

-- whether the frame of a place, from 0 on, is these bytes
abbrev pub is_bytes : List ℕ → Option Sent → Bool
is_bytes bytes None = false
is_bytes bytes (Some f) = bytes_eq f.bytes bytes

abbrev pub is_at : List Sent → ℕ → List ℕ → Bool
is_at sent place bytes = is_bytes bytes (slice_get sent place)

-- the tag of these bytes leads to a place at which they were sent
abbrev pub LeadsTo : TagIndex → List Sent → List ℕ → Type 0
LeadsTo index sent bytes =
    (place : ℕ) × (place_of_tag index (tag_in bytes) ≡ Some place) × (is_at sent place bytes ≡ true)

-- the first frames are in the index, each by its tag, unless it was given up
pub record IsIndex (index : TagIndex) (sent : List Sent) : Type 0 where
  pub few : index.indexed ≤ length sent
  pub placed : index.given_up ≡ false →
      (k : ℕ) (d : Sent) → k < index.indexed → LeadsTo index sent (get_or sent k d).bytes

-- what was sent, and how much of it stands before the mark
pub record Traffic : Type 0 where
  pub frames : List Sent
  pub mark : ℕ

-- with a frame more
abbrev pub with_frame : Traffic → Sent → Traffic
with_frame t f = record { frames = t.frames ++ f ∷ []; mark = t.mark }

-- with these frames
abbrev pub with_frames : Traffic → List Sent → Traffic
with_frames t fs = record { frames = t.frames ++ fs; mark = t.mark }
