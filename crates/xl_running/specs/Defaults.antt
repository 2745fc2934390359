-- What a schedule says unless a line says otherwise. Source: this project's schedule language.
use Rattle.std.specs.Prelude.{ℕ}

-- how many ledgers each node may know
abbrev pub default_limit : ℕ
default_limit = 1024

-- the version of validations that each node speaks
abbrev pub default_speak : ℕ
default_speak = 1
