-- What an input and an output show. Source: this project's own.
use Rattle.std.specs.Prelude.{ℕ, List, Option}

-- the bytes that the input has left and those that the output holds, if they tell them, and how many reads and writes
-- have failed
pub record Streams : Type 0 where
  pub left : Option (List ℕ)
  pub reads : ℕ
  pub held : Option (List ℕ)
  pub writes : ℕ

abbrev pub streams : Option (List ℕ) → ℕ → Option (List ℕ) → ℕ → Streams
streams left reads held writes = record { left = left; reads = reads; held = held; writes = writes }
