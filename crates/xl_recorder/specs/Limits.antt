-- How many entries a recorder writes. Source: this project's own formats.
use Rattle.std.specs.Prelude.{ℕ, ◌-◌}
use Rattle.xl_audit.specs.Limits.{most_lines}

-- Before the entries there are a header, the settings and at most 64 keys
abbrev pub most_entries : ℕ
most_entries = most_lines - 66
