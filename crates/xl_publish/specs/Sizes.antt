-- How many publishers there may be. Source: this project's own.
use Rattle.std.specs.Prelude.{ℕ}

-- the greatest number of a publisher; the least is 1
abbrev pub greatest_publisher : ℕ
greatest_publisher = 16
