-- How long a written journal may be. Source: this project's own formats.
use Rattle.std.specs.Prelude.{ℕ}

-- the most bytes of a line
abbrev pub most_bytes : ℕ
most_bytes = 100000

-- the most lines
abbrev pub most_lines : ℕ
most_lines = 20000000
