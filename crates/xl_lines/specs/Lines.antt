-- The lines of a list of bytes. Source: text files of POSIX, whose last line may lack its newline, with a return
-- dropped before a newline, or kept.
use Rattle.std.specs.Prelude.{ℕ, ◌-◌, ◌==◌, Bool, true, false, List, [], ◌∷◌, length, take, slice_index, cond}
use Rattle.xl_lines.specs.declared.limits.Returns.{Returns}
use Rattle.xl_lines.specs.declared.limits.Returns.TheVariants.{Dropped, Kept}

-- a line without its newline, and whether it has one
pub record Line : Type 0 where
  pub bytes : List ℕ
  pub ended : Bool

-- the lines after a byte that is no newline: it goes onto the first of them
abbrev pub onto : ℕ → List Line → List Line
onto byte [] = record { bytes = byte ∷ []; ended = false } ∷ []
onto byte (line ∷ lines) = record { bytes = byte ∷ line.bytes; ended = line.ended } ∷ lines

-- a newline (10) ends a line; what stands after the last one is a line too, unless it is nothing
abbrev pub lines_of : List ℕ → List Line
lines_of [] = []
lines_of (byte ∷ bytes) =
    cond (byte == 10) (record { bytes = []; ended = true } ∷ lines_of bytes) (onto byte (lines_of bytes))

-- without the return (13) that stands at the end, if one does
abbrev pub without_return : List ℕ → List ℕ
without_return bytes = cond (slice_index bytes (length bytes - 1) == 13) (take (length bytes - 1) bytes) bytes

-- what a machine is handed of the bytes before a newline
abbrev pub before_newline : Returns → List ℕ → List ℕ
before_newline Dropped bytes = without_return bytes
before_newline Kept bytes = bytes

-- what a machine is handed of a line
abbrev pub content : Returns → Line → List ℕ
content returns line = cond line.ended (before_newline returns line.bytes) line.bytes

-- all of a line whose last bytes are these: they stand in it already if it had begun
abbrev pub whole_line : Bool → List ℕ → List ℕ → List ℕ
whole_line had_begun line last = cond had_begun line last
