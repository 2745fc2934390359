-- Whole streams: their frames, and what a feed takes and hands out of them in any pieces.
-- Source: this project's own layout, in which no frame begins another.
use Rattle.std.specs.Prelude.{◌≡◌, ℕ, ◌<◌, false, List, [], ◌∷◌, ◌++◌, take}
use Rattle.std.specs.List.{flat_map, AllByRecursion}
use Rattle.xl_wire.specs.Feeding.{Fed, taken_of, after_push, after_next}
use Rattle.xl_wire.specs.Heads.{Split, split_of}
use Rattle.xl_wire.specs.Raws.{RawFrame, raw_bytes, IsRaw}

-- The frames whose spellings, one after the other, begin the bytes, and the rest: no other frame begins the rest.
pub record AreFramesOf (bytes : List ℕ) (frames : List RawFrame) (rest : List ℕ) : Type 0 where
  pub whole : bytes ≡ flat_map raw_bytes frames ++ rest
  pub each : AllByRecursion IsRaw frames
  pub last : (f : RawFrame) (more : List ℕ) → IsRaw f → rest ≡ raw_bytes f ++ more → ⊥

-- what is done with a feed
pub data Act : Type 0 where
  Push : List ℕ → Act
  Next : Act

-- pieces are of bytes
abbrev pub IsAct : Act → Type 0
IsAct (Push piece) = AllByRecursion (λ b. b < 256) piece
IsAct Next = Unit {0}

abbrev pub opened : Fed
opened = record { held = []; refused = false }

abbrev pub fed_after : Fed → List Act → Fed
fed_after fed [] = fed
fed_after fed (Push piece ∷ acts) = fed_after (after_push fed piece) acts
fed_after fed (Next ∷ acts) = fed_after (after_next fed) acts

-- all bytes that are taken
abbrev pub taken_by : Fed → List Act → List ℕ
taken_by fed [] = []
taken_by fed (Push piece ∷ acts) = take (taken_of fed piece) piece ++ taken_by (after_push fed piece) acts
taken_by fed (Next ∷ acts) = taken_by (after_next fed) acts

abbrev pub frame_in : Split → List RawFrame
frame_in (Split.Whole raw) = raw ∷ []
frame_in (Split.Need lack) = []
frame_in (Split.Refused refusal) = []

-- all frames that are handed out, in order
abbrev pub handed_by : Fed → List Act → List RawFrame
handed_by fed [] = []
handed_by fed (Push piece ∷ acts) = handed_by (after_push fed piece) acts
handed_by fed (Next ∷ acts) = frame_in (split_of fed.held) ++ handed_by (after_next fed) acts
