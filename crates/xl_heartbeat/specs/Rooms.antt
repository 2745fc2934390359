-- The room for reports. Source: this project's own.
use Rattle.std.specs.Prelude.{ℕ}

-- reports are taken into a room for so many
abbrev pub room : ℕ
room = 1024
