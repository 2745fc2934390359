-- Bytes that are put at a place of a room. Source: this project's own layouts.
use Rattle.std.specs.Prelude.{◌≡◌, ℕ, ◌+◌, ◌≤◌, List, ◌++◌, length, take, drop}

-- the bytes stand at this place in the new list, which is the old one elsewhere
pub record Puts (at : ℕ) (bytes old new : List ℕ) : Type 0 where
  pub fits : at + length bytes ≤ length old
  pub is : new ≡ take at old ++ bytes ++ drop (at + length bytes) old
