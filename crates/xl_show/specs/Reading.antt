-- What the bytes that have come begin with. Source: what the code of this crate relies on.
use Rattle.std.specs.Prelude.{◌≡◌, ℕ, ◌<◌, ◌≤◌, List, [], ◌++◌, length}
use Rattle.xl_lines.specs.Rules.{Told, refused}
use Rattle.xl_wire.specs.declared.decoding.Decoded.TheVariants as decoded
use Rattle.xl_wire.specs.declared.frame.Frame.{Frame}
use Rattle.xl_wire.specs.declared.refusal.WireRefusal.{WireRefusal}
use Rattle.xl_wire.specs.Frames.{decoded_of}
use Rattle.xl_show.specs.declared.reading.Look.{Look}
use Rattle.xl_show.specs.declared.reading.Look.TheVariants as look
use Rattle.xl_show.specs.Texts.{frame_line, refusal_line}

-- this is seen in the bytes that begin at this place, whatever follows them, and this is told of it
abbrev pub IsSeen : Look → ℕ → List ℕ → List ℕ → Type 0
IsSeen (look.Frame n) place bytes text =
    (frame : Frame) × ((more : List ℕ) → decoded_of (bytes ++ more) ≡ decoded.Whole frame n)
    × (text ≡ frame_line frame) × (0 < n) × (n ≤ length bytes)
IsSeen (look.Lacks n) place bytes text = (decoded_of bytes ≡ decoded.Need n) × (text ≡ []) × (0 < n)
IsSeen look.Refused place bytes text =
    (refusal : WireRefusal) × ((more : List ℕ) → decoded_of (bytes ++ more) ≡ decoded.Refused refusal)
    × (text ≡ refusal_line place refusal)

-- what is left to tell
abbrev pub left_after : Look → Told → Told
left_after (look.Frame n) told = told
left_after (look.Lacks n) told = told
left_after look.Refused told = refused []
