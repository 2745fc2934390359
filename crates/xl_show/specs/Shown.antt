-- What is written about a stream of frames. Source: this project's own formats.
use Rattle.std.specs.Prelude.{ℕ, zero, suc, ◌+◌, ◌-◌, ◌==◌, nat_lt, Bool, List, length, take, drop, if◌then◌else◌}
use Rattle.xl_lines.specs.declared.machine.Verdict.TheVariants.{Good, Refused as IsRefused}
use Rattle.xl_lines.specs.Rules.{Told, closes, refused}
use Rattle.xl_lines.specs.Told.{after}
use Rattle.xl_wire.specs.declared.decoding.Decoded.{Decoded}
use Rattle.xl_wire.specs.declared.decoding.Decoded.TheVariants.{Whole, Need, Refused}
use Rattle.xl_wire.specs.Frames.{decoded_of}
use Rattle.xl_show.specs.Limits.{most_bytes}
use Rattle.xl_show.specs.Texts.{frame_line, refusal_line, short_line, limit_line, count_line}

-- behind the last whole frame: more bytes come than may, or none is left, or this many lack
abbrev pub told_at_end : Bool → ℕ → ℕ → ℕ → List ℕ → Told
told_at_end beyond place count lack bytes =
    if beyond then refused limit_line
    else if length bytes == 0 then closes (count_line count) Good
    else closes (short_line place lack) IsRefused

-- what is written of what the bytes begin with, where next says what is written behind a frame of this many bytes
unfoldable pub told_by : (ℕ → Told) → Bool → ℕ → ℕ → List ℕ → Decoded → Told
told_by next beyond place count bytes (Whole frame n) = after (frame_line frame) (next n)
told_by next beyond place count bytes (Refused refusal) = refused (refusal_line place refusal)
told_by next beyond place count bytes (Need lack) = told_at_end beyond place count lack bytes

-- frame after frame, at most this many
unfoldable pub told_frames : ℕ → Bool → ℕ → ℕ → List ℕ → Told
told_frames zero beyond place count bytes = told_at_end beyond place count 0 bytes
told_frames (suc most) beyond place count bytes =
    told_by (λ n. told_frames most beyond (place + n) (count + 1) (drop n bytes)) beyond place count bytes
    (decoded_of bytes)

-- What is told from a place on, behind so many frames. Bytes beyond the limit aren't looked at, and no more frames than
-- bytes can stand there.
unfoldable pub told_from : ℕ → ℕ → List ℕ → Told
told_from place count bytes =
    let front = take (most_bytes - place) bytes in
    told_frames (length front) (nat_lt most_bytes (place + length bytes)) place count front

-- what is written about a stream
abbrev pub shown_of : List ℕ → Told
shown_of bytes = told_from 0 0 bytes
