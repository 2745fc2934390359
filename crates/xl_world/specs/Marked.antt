-- A word in which the bits of some numbers are set. Source: what the code of this crate keeps.
use Rattle.std.specs.Int.{bit_at}
use Rattle.std.specs.Prelude.{◌≡◌, ◌<◌, ℕ, suc, List, All}

-- the bit of number 1 is the lowest
abbrev pub IsMarked : ℕ → ℕ → Type 0
IsMarked word number = (place : ℕ) × (place < 64) × (number ≡ suc place) × (bit_at word place ≡ 1)

abbrev pub AreMarked : ℕ → List ℕ → Type 0
AreMarked word numbers = All (IsMarked word) numbers
