-- The sizes of the schedule that is made. Source: this project's own.
use Rattle.std.specs.Prelude.{ℕ}

-- the moment at which the nodes are opened, in milliseconds
abbrev pub first_moment : ℕ
first_moment = 800000000000

-- the most rounds
abbrev pub most_rounds : ℕ
most_rounds = 1000
