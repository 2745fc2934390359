-- What a read does to the bytes that a stream still gives, and a write to those that it has taken, where the stream
-- tells them. Source: the laws of std's readers and writers.
use Rattle.std.specs.Prelude.{◌≡◌, ℕ, ◌<◌, List, length, take, Some, None}
use Rattle.std.specs.declared.option.Option.{Option}
use Rattle.std.specs.Io.KnownBytes.{Appends, Consumes, IsAtEnd, Keeps}
use Rattle.xl_io.specs.declared.sink.Wrote.{Wrote}
use Rattle.xl_io.specs.declared.sink.Wrote.TheVariants as wrote
use Rattle.xl_io.specs.declared.source.Piece.{Piece}
use Rattle.xl_io.specs.declared.source.Piece.TheVariants as piece

-- what was given were the stream's next bytes, and it has lost them; none were given only at its end, or where there is
-- no room; and a read that failed took none
abbrev pub Gave : Option (List ℕ) → Option (List ℕ) → Option ℕ → List ℕ → Type 0
Gave old new (Some n) room = Consumes old new (take n room) × (n ≡ 0 → 0 < length room → IsAtEnd new)
Gave old new None room = Keeps old new

-- the same, of what a source answers
abbrev pub ReadsOn : Option (List ℕ) → Option (List ℕ) → Piece → List ℕ → Type 0
ReadsOn old new (piece.Got n) room = Consumes old new (take n room)
ReadsOn old new piece.End room = Keeps old new × (0 < length room → IsAtEnd new)
ReadsOn old new piece.Failed room = Keeps old new

-- the stream holds what was taken behind what it held; a write that failed added nothing
abbrev pub TookIn : Option (List ℕ) → Option (List ℕ) → Option ℕ → List ℕ → Type 0
TookIn old new (Some n) text = Appends old new (take n text)
TookIn old new None text = Keeps old new

-- the same, of what a sink answers
abbrev pub WritesOn : Option (List ℕ) → Option (List ℕ) → Wrote → List ℕ → Type 0
WritesOn old new (wrote.Took n) text = Appends old new (take n text)
WritesOn old new wrote.Failed text = Keeps old new
