-- Feeds: what is held of a stream that comes in pieces, and what is handed out of it.
-- Source: this project's own; a feed has room for the longest frame of its layout.
use Rattle.std.specs.Prelude.{◌≡◌, ℕ, ◌-◌, ◌≤◌, min, Bool, true, List, ◌++◌, length, take, drop, if◌then◌else◌}
use Rattle.xl_wire.specs.declared.refusal.WireRefusal.{WireRefusal}
use Rattle.xl_wire.specs.Heads.{Split, split_of}
use Rattle.xl_wire.specs.Kinds.{span}
use Rattle.xl_wire.specs.Lengths.{longest_frame}

-- what a feed holds, and whether it has refused
pub record Fed : Type 0 where
  pub held : List ℕ
  pub refused : Bool

-- how many bytes of a piece are taken: as many as there is room for, and none after a refusal
abbrev pub taken_of : Fed → List ℕ → ℕ
taken_of fed piece = if fed.refused then 0 else min (length piece) (longest_frame - length fed.held)

abbrev pub after_push : Fed → List ℕ → Fed
after_push fed piece = record { held = fed.held ++ take (taken_of fed piece) piece; refused = fed.refused }

-- what is handed out
pub data Offer : Type 0 where
  Frame : List ℕ → Offer
  Need : ℕ → Offer
  Refused : WireRefusal → Offer

abbrev pub offer_from : Split → List ℕ → Offer
offer_from (Split.Whole raw) held = Frame (take (span raw.body) held)
offer_from (Split.Need lack) held = Need lack
offer_from (Split.Refused refusal) held = Refused refusal

-- the frame that is split off what is held, or what splitting answers in its place
abbrev pub offer_of : Fed → Offer
offer_of fed = offer_from (split_of fed.held) fed.held

abbrev pub after_split : Split → Fed → Fed
after_split (Split.Whole raw) fed = record { held = drop (span raw.body) fed.held; refused = fed.refused }
after_split (Split.Need lack) fed = fed
after_split (Split.Refused refusal) fed = record { held = fed.held; refused = true }

-- a frame that is handed out is held no more, and a refusal stays
abbrev pub after_next : Fed → Fed
after_next fed = after_split (split_of fed.held) fed

-- what lies between two places of the room
abbrev pub held_in : List ℕ → ℕ → ℕ → List ℕ
held_in bytes start end = take (end - start) (drop start bytes)

pub record IsFed (bytes : List ℕ) (start end : ℕ) : Type 0 where
  pub ordered : start ≤ end
  pub within : end ≤ longest_frame
  pub room : length bytes ≡ longest_frame
