-- How much of a stream is shown. Source: this project's own.
use Rattle.std.specs.Prelude.{ℕ}

-- the most bytes of a stream
abbrev pub most_bytes : ℕ
most_bytes = 268435456
