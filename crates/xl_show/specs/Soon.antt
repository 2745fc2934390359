-- What is told of bytes as soon as they have come. Source: this project's own formats.
use Rattle.std.specs.Prelude.{ℕ, zero, suc, ◌+◌, ◌&&◌, not, nat_lt, Bool, List, [], length, drop}
use Rattle.xl_lines.specs.Rules.{Told, refused}
use Rattle.xl_lines.specs.Told.{after}
use Rattle.xl_lines.specs.Soon.{silence}
use Rattle.xl_wire.specs.declared.decoding.Decoded.{Decoded}
use Rattle.xl_wire.specs.declared.decoding.Decoded.TheVariants.{Whole, Need, Refused}
use Rattle.xl_wire.specs.Frames.{decoded_of}
use Rattle.xl_show.specs.Limits.{most_bytes}
use Rattle.xl_show.specs.Texts.{frame_line}

-- the line of the frame that the bytes begin with, if it is whole, and then what is told behind it
unfoldable pub soon_by : (ℕ → Told) → Decoded → Told
soon_by next (Whole frame n) = after (frame_line frame) (next n)
soon_by next (Need lack) = silence
soon_by next (Refused refusal) = refused []

-- frame after frame, at most so many
unfoldable pub soon_in : ℕ → List ℕ → Told
soon_in zero bytes = silence
soon_in (suc most) bytes = soon_by (λ n. soon_in most (drop n bytes)) (decoded_of bytes)

-- a byte too many ends the text
abbrev pub ended_if : Bool → Told → Told
ended_if beyond told = record { text = told.text; verdict = told.verdict; closed = told.closed && not beyond }

-- The lines of the frames that are whole in the bytes that begin at this place, no more frames than bytes. The text goes
-- on unless bytes behind them are no frame, or one is too many; the line that says so is left out
unfoldable pub soon_from : ℕ → List ℕ → Told
soon_from place bytes = ended_if (nat_lt most_bytes (place + length bytes)) (soon_in (length bytes) bytes)

abbrev pub shown_soon : List ℕ → Told
shown_soon bytes = soon_from 0 bytes
