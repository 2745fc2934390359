-- What a read does to the bytes that a source has left, if they are known. Source: the POSIX call read, with a
-- count of faults.
use Rattle.std.specs.Prelude.{◌≡◌, ℕ, ◌<◌, ◌≤◌, List, length, take}
use Rattle.std.specs.declared.option.Option.{Option}
use Rattle.std.specs.Io.KnownBytes.{prepend_known, IsAtEnd}
use Rattle.xl_io.specs.declared.source.Piece.{Piece}
use Rattle.xl_io.specs.declared.source.Piece.TheVariants.{Got, End, Failed}

-- a read gives at most what the room holds, and some of it unless there is no room
abbrev pub FitsRoom : Piece → List ℕ → Type 0
FitsRoom (Got n) room = (n ≤ length room) × (0 < length room → 0 < n)
FitsRoom End room = Unit {0}
FitsRoom Failed room = Unit {0}

-- the n bytes got were the next ones, the end comes only if none is left, and a failed read gives none
abbrev pub Reads : Option (List ℕ) → Option (List ℕ) → Piece → List ℕ → Type 0
Reads old new (Got n) room = old ≡ prepend_known (take n room) new
Reads old new End room = IsAtEnd old × (new ≡ old)
Reads old new Failed room = new ≡ old
