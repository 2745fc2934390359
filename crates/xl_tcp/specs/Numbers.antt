-- The numbers of connections, times in milliseconds. Source: this project's own.
use Rattle.std.specs.Prelude.{ℕ}

-- ---- what frames cost, and what is allowed

-- a frame costs this beside its bytes
abbrev pub each_frame : ℕ
each_frame = 1000

-- frames may cost this at once, and with each millisecond more
abbrev pub frames_at_once : ℕ
frames_at_once = 100000

abbrev pub frames_each_milli : ℕ
frames_each_milli = 25

-- a greeting's header costs this
abbrev pub each_header : ℕ
each_header = 1000

-- a link's members may greet with 262,144 headers, and with 300 more in each second
abbrev pub headers_at_once : ℕ
headers_at_once = 262144000

abbrev pub headers_each_milli : ℕ
headers_each_milli = 300

-- ---- how long a peer may go on so

-- with no whole frame, and with none before the first
abbrev pub longest_silence : ℕ
longest_silence = 60000

abbrev pub longest_silence_at_first : ℕ
longest_silence_at_first = 300000

-- with nothing told, and with nothing before the first
abbrev pub patience : ℕ
patience = 20000

abbrev pub patience_at_first : ℕ
patience_at_first = 2000

-- behind a greeting that is known, with nothing else told
abbrev pub patience_with_greeting : ℕ
patience_with_greeting = 5000

-- with known frames alone
abbrev pub patience_with_known : ℕ
patience_with_known = 300000

-- ---- how long a caller may wait

-- with no whole frame, and with one
abbrev pub patience_with_caller : ℕ
patience_with_caller = 10000

abbrev pub patience_when_shown : ℕ
patience_when_shown = 60000

-- with nothing sent, until a peer that tells nothing makes room
abbrev pub patience_with_quiet : ℕ
patience_with_quiet = 2000

-- ---- how long a write waits, in waits of 50 milliseconds, and how many bytes are read ahead

-- five minutes for a member, and one for whoever has shown no right tag
abbrev pub waits_for_member : ℕ
waits_for_member = 6000

abbrev pub waits_at_first : ℕ
waits_at_first = 1200

-- the longest greeting, and a third of it from whoever is on no list
abbrev pub bytes_ahead : ℕ
bytes_ahead = 48000000

abbrev pub bytes_ahead_of_others : ℕ
bytes_ahead_of_others = 16000000

-- ---- the clock

-- how long after 1970 the year 2000 began
abbrev pub epoch_millis : ℕ
epoch_millis = 946684800000
