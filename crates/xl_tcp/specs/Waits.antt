-- How long a write waits, and how much is read ahead. Source: this project's own: two peers may greet each other at once
-- with all that a node may know, and a stranger is to hold no link for long.
use Rattle.std.specs.Prelude.{ℕ}
use Rattle.xl_tcp.specs.declared.conduct.Manner.{Manner}
use Rattle.xl_tcp.specs.declared.conduct.Manner.TheVariants.{New, Shown, Unlisted, Member, Forger}
use Rattle.xl_tcp.specs.Numbers.{bytes_ahead, bytes_ahead_of_others, waits_at_first, waits_for_member}

-- how many times a write waits
abbrev pub most_waits : Manner → ℕ
most_waits Member = waits_for_member
most_waits other = waits_at_first

-- how many bytes are read ahead
abbrev pub most_ahead : Manner → ℕ
most_ahead New = bytes_ahead
most_ahead Shown = bytes_ahead
most_ahead Unlisted = bytes_ahead_of_others
most_ahead Member = bytes_ahead
most_ahead Forger = bytes_ahead_of_others
