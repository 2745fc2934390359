-- How many ledgers a registry may hold, and how many jumps each has. Source: this profile's.
use Rattle.std.specs.Prelude.{ℕ}

-- the root, and one more
abbrev pub least_limit : ℕ
least_limit = 2

abbrev pub greatest_limit : ℕ
greatest_limit = 262144

-- the jumps of a ledger: so many bits have the numbers below the greatest limit
abbrev pub levels : ℕ
levels = 18
