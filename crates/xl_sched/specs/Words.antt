-- A line by its word. Source: this project's schedule language.
use Rattle.std.specs.Prelude.{ℕ, Bool, true, false, ◌&&◌, List, codes, Option, Some, None, Result, Ok, Err, if◌then◌else◌}
use Rattle.std.specs.Str.{bytes_eq}
use Rattle.xl_sched.specs.declared.event.What.{What}
use Rattle.xl_sched.specs.declared.line.Line.{Line}
use Rattle.xl_sched.specs.declared.line.Line.TheVariants as line
use Rattle.xl_sched.specs.declared.refusal.SchedRefusal.{SchedRefusal}
use Rattle.xl_sched.specs.declared.refusal.SchedRefusal.TheVariants.{Word as IsNoWord, Late}
use Rattle.xl_sched.specs.declared.word.EventWord.{EventWord}
use Rattle.xl_sched.specs.declared.word.EventWord.TheVariants as event
use Rattle.xl_sched.specs.declared.word.SettingWord.{SettingWord}
use Rattle.xl_sched.specs.declared.word.SettingWord.TheVariants as setting
use Rattle.xl_sched.specs.Refusals.{◌>>=◌}
use Rattle.xl_sched.specs.Settings.{limit_line, speak_line, node_line, liar_line, at_line}
use Rattle.xl_sched.specs.Naming.{name_line, ledger_line}
use Rattle.xl_sched.specs.Events.{issue_event, submit_event, timer_event, timers_event, deliver_event, all_event, drop_event, greet_event, restart_event, raw_event, prefer_event, list_event, heard_event}
use Rattle.xl_sched.specs.Saves.{cut_event, fail_event}
use Rattle.xl_sched.specs.Lies.{lie_event}
use Rattle.xl_sched.specs.Reading.{Reading}

-- the word of a line at which nothing happens
abbrev pub setting_word : List ℕ → Option SettingWord
setting_word token =
    if bytes_eq token (codes "limit") then Some setting.Limit
    else if bytes_eq token (codes "speak") then Some setting.Speak
    else if bytes_eq token (codes "node") then Some setting.Node
    else if bytes_eq token (codes "liar") then Some setting.Liar
    else if bytes_eq token (codes "at") then Some setting.At
    else if bytes_eq token (codes "name") then Some setting.Name
    else if bytes_eq token (codes "ledger") then Some setting.Ledger
    else None

-- the word of another event's line
abbrev pub other_event_word : List ℕ → Option EventWord
other_event_word token =
    if bytes_eq token (codes "restart") then Some event.Restart
    else if bytes_eq token (codes "cut") then Some event.Cut
    else if bytes_eq token (codes "fail") then Some event.Fail
    else if bytes_eq token (codes "lie") then Some event.Lie
    else if bytes_eq token (codes "raw") then Some event.Raw
    else if bytes_eq token (codes "prefer") then Some event.Prefer
    else if bytes_eq token (codes "list") then Some event.List
    else if bytes_eq token (codes "heard") then Some event.Heard
    else None

-- the word of an event's line
abbrev pub event_word : List ℕ → Option EventWord
event_word token =
    if bytes_eq token (codes "issue") then Some event.Issue
    else if bytes_eq token (codes "submit") then Some event.Submit
    else if bytes_eq token (codes "timer") then Some event.Timer
    else if bytes_eq token (codes "timers") then Some event.Timers
    else if bytes_eq token (codes "deliver") then Some event.Deliver
    else if bytes_eq token (codes "all") then Some event.All
    else if bytes_eq token (codes "drop") then Some event.Drop
    else if bytes_eq token (codes "greet") then Some event.Greet
    else other_event_word token

-- whether a line of this word may stand only before the first event
abbrev pub is_declaration : SettingWord → Bool
is_declaration setting.Limit = true
is_declaration setting.Speak = true
is_declaration setting.Node = true
is_declaration setting.Liar = true
is_declaration other = false

-- the line of a word at which nothing happens, and of the tokens after it
abbrev pub set_line : Reading → SettingWord → List (List ℕ) → Result Line SchedRefusal
set_line reading setting.Limit arguments = limit_line reading arguments
set_line reading setting.Speak arguments = speak_line reading arguments
set_line reading setting.Node arguments = node_line reading arguments
set_line reading setting.Liar arguments = liar_line reading arguments
set_line reading setting.At arguments = at_line arguments
set_line reading setting.Name arguments = name_line reading arguments
set_line reading setting.Ledger arguments = ledger_line reading arguments

-- a declaration comes too late after the first event
abbrev pub setting_line : Reading → SettingWord → List ℕ → List (List ℕ) → Result Line SchedRefusal
setting_line reading word token arguments =
    if reading.started && is_declaration word then Err (Late token) else set_line reading word arguments

-- what happens at the line of a word
abbrev pub what_of : Reading → ℕ → EventWord → List (List ℕ) → Result What SchedRefusal
what_of reading sent event.Issue arguments = issue_event reading arguments
what_of reading sent event.Submit arguments = submit_event reading arguments
what_of reading sent event.Timer arguments = timer_event reading arguments
what_of reading sent event.Timers arguments = timers_event arguments
what_of reading sent event.Deliver arguments = deliver_event sent arguments
what_of reading sent event.All arguments = all_event arguments
what_of reading sent event.Drop arguments = drop_event arguments
what_of reading sent event.Greet arguments = greet_event reading arguments
what_of reading sent event.Restart arguments = restart_event reading arguments
what_of reading sent event.Cut arguments = cut_event reading arguments
what_of reading sent event.Fail arguments = fail_event reading arguments
what_of reading sent event.Lie arguments = lie_event reading arguments
what_of reading sent event.Raw arguments = raw_event reading arguments
what_of reading sent event.Prefer arguments = prefer_event reading arguments
what_of reading sent event.List arguments = list_event reading arguments
what_of reading sent event.Heard arguments = heard_event reading arguments

-- it happens at the moment in force
abbrev pub event_at : Reading → What → Line
event_at reading what = line.Event (record { at = reading.now; what = what })

abbrev pub event_line : Reading → Result What SchedRefusal → Result Line SchedRefusal
event_line reading result = do
  what ← result
  Ok (event_at reading what)

abbrev pub event_line_of : Reading → ℕ → Option EventWord → List ℕ → List (List ℕ) → Result Line SchedRefusal
event_line_of reading sent None token arguments = Err (IsNoWord token)
event_line_of reading sent (Some word) token arguments = event_line reading (what_of reading sent word arguments)

abbrev pub line_of : Reading → ℕ → Option SettingWord → List ℕ → List (List ℕ) → Result Line SchedRefusal
line_of reading sent None token arguments = event_line_of reading sent (event_word token) token arguments
line_of reading sent (Some word) token arguments = setting_line reading word token arguments

-- the line that begins with this token
abbrev pub worded_line : Reading → ℕ → List ℕ → List (List ℕ) → Result Line SchedRefusal
worded_line reading sent token arguments = line_of reading sent (setting_word token) token arguments
