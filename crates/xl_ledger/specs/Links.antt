-- A ledger or none as one number: 0 is none, and any other is one more than the ledger's place.
-- Source: this project's own layout.
use Rattle.std.specs.Prelude.{ℕ, zero, suc, ◌+◌, Option, Some, None}

-- what a number stands for
abbrev pub linked : ℕ → Option ℕ
linked zero = None
linked (suc place) = Some place

-- the number that stands for it
abbrev pub number_of : Option ℕ → ℕ
number_of None = 0
number_of (Some place) = place + 1
