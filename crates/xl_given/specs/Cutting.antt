-- Frames that stand one behind the other. Source: this project's own layout.
use Rattle.std.specs.Prelude.{ℕ, zero, suc, List, [], ◌∷◌, drop, length, map, take}
use Rattle.xl_wire.specs.Heads.{Split, split_of}
use Rattle.xl_wire.specs.Heads.Split.{Whole, Need, Refused}
use Rattle.xl_wire.specs.Kinds.{span}
use Rattle.xl_given.specs.Given.{Noted}

-- the frame with which the bytes begin, and what there is behind it
abbrev pub cut_off : (List ℕ → List (List ℕ)) → List ℕ → Split → List (List ℕ)
cut_off behind bytes (Whole f) = take (span f.body) bytes ∷ behind (drop (span f.body) bytes)
cut_off behind bytes (Need lack) = []
cut_off behind bytes (Refused why) = []

-- the whole frames with which the bytes begin, at most so many
abbrev pub cut : ℕ → List ℕ → List (List ℕ)
cut zero bytes = []
cut (suc n) bytes = cut_off (cut n) bytes (split_of bytes)

-- all of them: there are no more frames than bytes
abbrev pub frames_of : List ℕ → List (List ℕ)
frames_of bytes = cut (length bytes) bytes

-- an entry of a journal has this frame
abbrev pub noted_as : ℕ → ℕ → ℕ → List ℕ → Noted
noted_as m journal entry frame = record { member = m; journal = journal; entry = entry; frame = frame }

-- and it has all that stand in these bytes
abbrev pub noted_from : ℕ → ℕ → ℕ → List ℕ → List Noted
noted_from m journal entry bytes = map (noted_as m journal entry) (frames_of bytes)
