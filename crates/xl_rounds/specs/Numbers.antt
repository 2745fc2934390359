-- The numbers of rounds. Source: the parameters of classical rippled's consensus, as this profile takes them; how many
-- ids may be pending is this profile's.
use Rattle.std.specs.Prelude.{ℕ}

-- ---- the open phase, in milliseconds

-- how long the round before a node's first one counts as
abbrev pub first_former_ms : ℕ
first_former_ms = 15000

-- a round or a wait above it is too long
abbrev pub longest_ms : ℕ
longest_ms = 600000

-- how long a round waits if nothing is pending
abbrev pub idle_ms : ℕ
idle_ms = 15000

-- how long it waits if something is
abbrev pub least_open_ms : ℕ
least_open_ms = 2000

-- ---- the phase establish

-- no consensus is found before this many milliseconds
abbrev pub least_ms : ℕ
least_ms = 1950

-- the percent of time is taken of no fewer milliseconds than this
abbrev pub least_former_ms : ℕ
least_former_ms = 5000

-- a position is old after this many seconds
abbrev pub fresh_secs : ℕ
fresh_secs = 20

-- ours is renewed after this many
abbrev pub renewed_secs : ℕ
renewed_secs = 12

-- this many percent make a consensus
abbrev pub consensus_percent : ℕ
consensus_percent = 80

-- ---- sequences and resolutions

-- the propose sequence that says that a member leaves
abbrev pub leaving : ℕ
leaving = 4294967295

-- the greatest of all others
abbrev pub last_sequence : ℕ
last_sequence = 4294967294

-- a resolution that isn't one of the six counts as this many seconds
abbrev pub usual_resolution : ℕ
usual_resolution = 30

-- ---- pending

-- as many ids may be pending as a set may have
abbrev pub most_pending : ℕ
most_pending = 256
