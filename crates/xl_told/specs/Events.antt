-- The line of an event, in the words of a schedule's line. Source: this project's own formats.
use Rattle.std.specs.Prelude.{ℕ, Bool, List, ◌++◌, decimal, codes, if◌then◌else◌}
use Rattle.hex.specs.Hex.{encode_lower}
use Rattle.xl_sched.specs.declared.event.Ask.{Ask}
use Rattle.xl_sched.specs.declared.event.Ask.TheVariants as ask
use Rattle.xl_sched.specs.declared.event.Event.{Event}
use Rattle.xl_sched.specs.declared.event.Lied.{Lied}
use Rattle.xl_sched.specs.declared.event.Lied.TheVariants as lied
use Rattle.xl_sched.specs.declared.event.What.{What}
use Rattle.xl_sched.specs.declared.event.What.TheVariants as what
use Rattle.xl_sched.specs.declared.named.Named.{Named}
use Rattle.xl_sched.specs.Tokens.{shown_token}
use Rattle.xl_running.specs.Texts.{id_text, newline, space}
use Rattle.xl_told.specs.Words.{fullness_text, ids_text, list_text, proposal_text, tx_text, validation_text}

-- what a node is asked
abbrev pub ask_text : List Named → Ask → List ℕ
ask_text names (ask.Issue node seq id full) =
    codes "issue " ++ decimal node ++ space ++ decimal seq ++ space ++ id_text names id ++ space ++ fullness_text full
ask_text names (ask.Timer node) = codes "timer " ++ decimal node

-- what a liar says; a name is printed as any token is
abbrev pub lied_text : List Named → Lied → List ℕ
lied_text names (lied.Proposal p) = codes "proposal " ++ proposal_text names p
lied_text names (lied.Validation v) = codes "validation " ++ validation_text names v
lied_text names (lied.Header name h) = codes "header " ++ shown_token name
lied_text names (lied.TxSet ids) = codes "set " ++ ids_text names ids
lied_text names (lied.Tx tx) = codes "tx " ++ tx_text names tx

-- the word of the number that a disk then holds
abbrev pub held_text : Bool → List ℕ
held_text new = if new then codes "new" else codes "old"

-- what happens
abbrev pub what_text : List Named → What → List ℕ
what_text names (what.Ask ask) = ask_text names ask
what_text names what.Timers = codes "timers"
what_text names (what.Submit node tx) = codes "submit " ++ decimal node ++ space ++ tx_text names tx
what_text names (what.Deliver place) = codes "deliver " ++ decimal place
what_text names what.All = codes "all"
what_text names what.Drop = codes "drop"
what_text names (what.Greet node peer) = codes "greet " ++ decimal node ++ space ++ decimal peer
what_text names (what.Restart node) = codes "restart " ++ decimal node
what_text names (what.Cut new ask) = codes "cut " ++ held_text new ++ space ++ ask_text names ask
what_text names (what.Fail new ask) = codes "fail " ++ held_text new ++ space ++ ask_text names ask
what_text names (what.List node list) = codes "list " ++ decimal node ++ space ++ list_text list
what_text names (what.Lie from to lie) =
    codes "lie " ++ decimal from ++ space ++ decimal to ++ space ++ lied_text names lie
what_text names (what.Raw to bytes) = codes "raw " ++ decimal to ++ space ++ encode_lower bytes
what_text names (what.Prefer node) = codes "prefer " ++ decimal node
what_text names (what.Heard node) = codes "heard " ++ decimal node

-- its line, and when it happens
abbrev pub lead_text : ℕ → ℕ → List ℕ
lead_text n at = codes "event " ++ decimal n ++ space ++ decimal at ++ space

-- the event, or the part of one, that stands in line n of the schedule
abbrev pub event_line : List Named → ℕ → Event → List ℕ
event_line names n e =
    codes "event " ++ decimal n ++ space ++ decimal e.at ++ space ++ what_text names e.what ++ newline
