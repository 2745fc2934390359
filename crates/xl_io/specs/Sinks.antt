-- What a write does to the bytes that a sink holds, if they are known. Source: the POSIX call write, with a count
-- of faults.
use Rattle.std.specs.Prelude.{◌≡◌, ℕ, ◌<◌, ◌≤◌, List, ◌++◌, length, take}
use Rattle.std.specs.declared.option.Option.{Option}
use Rattle.std.specs.Io.KnownBytes.{append_known}
use Rattle.xl_io.specs.declared.sink.Wrote.{Wrote}
use Rattle.xl_io.specs.declared.sink.Wrote.TheVariants.{Took, Failed}

-- a write takes at most the piece, and some of it unless the piece is empty
abbrev pub FitsPiece : Wrote → List ℕ → Type 0
FitsPiece (Took n) piece = (n ≤ length piece) × (0 < length piece → 0 < n)
FitsPiece Failed piece = Unit {0}

-- the first n bytes of the piece are added, and by a failed write none
abbrev pub Writes : Option (List ℕ) → Option (List ℕ) → Wrote → List ℕ → Type 0
Writes old new (Took n) piece = new ≡ append_known old (take n piece)
Writes old new Failed piece = new ≡ old

-- what is held grew by a front of the text
pub record GrewByFront (old new : Option (List ℕ)) (text : List ℕ) : Type 0 where
  pub written : List ℕ
  pub missing : List ℕ
  pub parts : text ≡ written ++ missing
  pub held : new ≡ append_known old written

-- what is held grew by a front of the text, and some of it is missing
abbrev pub GrewByLess : Option (List ℕ) → Option (List ℕ) → List ℕ → Type 0
GrewByLess old new text = (front : GrewByFront old new text) × (0 < length front.missing)
