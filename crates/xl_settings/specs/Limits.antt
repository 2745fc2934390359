-- The limits and the defaults of a node's settings. Source: this project's own format.
use Rattle.std.specs.Prelude.{ℕ, ◌^◌}

-- the most bytes of a text of settings
abbrev pub most_bytes : ℕ
most_bytes = 1048576

-- how many ledgers a node may know whose settings don't say
abbrev pub usual_limit : ℕ
usual_limit = 16384

-- how many turns its store may take if its settings don't say, and at most
abbrev pub usual_turns : ℕ
usual_turns = 10000000

abbrev pub greatest_turns : ℕ
greatest_turns = 2 ^ 62

-- the milliseconds from heartbeat to heartbeat if its settings don't say, at least and at most
abbrev pub usual_heartbeat_ms : ℕ
usual_heartbeat_ms = 1000

abbrev pub least_heartbeat_ms : ℕ
least_heartbeat_ms = 100

abbrev pub greatest_heartbeat_ms : ℕ
greatest_heartbeat_ms = 10000

-- how many bytes of a journal are written to its file if its settings don't say, and at most
abbrev pub usual_journal_bytes : ℕ
usual_journal_bytes = 1000000000

abbrev pub greatest_journal_bytes : ℕ
greatest_journal_bytes = 1000000000000

-- the most milliseconds that a run with an end may take
abbrev pub greatest_run_ms : ℕ
greatest_run_ms = 1000000000000

-- the version of its validations if its settings don't say, which is the least one, and the greatest
abbrev pub usual_speak : ℕ
usual_speak = 1

abbrev pub greatest_speak : ℕ
greatest_speak = 2
