-- Events, except for disturbed saves and lies. Source: this project's schedule language.
use Rattle.std.specs.Prelude.{ℕ, Bool, ◌==◌, ◌&&◌, ◌||◌, not, nat_le, nat_lt, decimal, List, [], ◌∷◌, length, Result, Ok, Err, if◌then◌else◌}
use Rattle.std.specs.Option.{ok_or}
use Rattle.std.specs.Result.{result_ok}
use Rattle.hex.specs.Hex.{decode_of}
use Rattle.xl_lists.specs.Lists.{is_on}
use Rattle.xl_sched.specs.declared.event.Ask.{Ask}
use Rattle.xl_sched.specs.declared.event.Ask.TheVariants as ask
use Rattle.xl_sched.specs.declared.event.What.{What}
use Rattle.xl_sched.specs.declared.event.What.TheVariants as what
use Rattle.xl_sched.specs.Limits.{most_lists, most_raw_bytes}
use Rattle.xl_sched.specs.declared.refusal.SchedRefusal.{SchedRefusal}
use Rattle.xl_sched.specs.declared.refusal.SchedRefusal.TheVariants.{Id, Absent, Limit}
use Rattle.xl_sched.specs.Refusals.{◌>>=◌, miscounted}
use Rattle.xl_sched.specs.Numbers.{number_of, place_of}
use Rattle.xl_sched.specs.Names.{ledger_id_of, tx_id_of}
use Rattle.xl_sched.specs.Members.{member_of, declared_of, members_of, trusted_of}
use Rattle.xl_sched.specs.Choices.{full_of}
use Rattle.xl_sched.specs.Reading.{Reading}

-- a node is asked to issue its validation, the parts from left to right
abbrev pub issue_of : Reading → List ℕ → List ℕ → List ℕ → List ℕ → Result Ask SchedRefusal
issue_of reading number sequence id kind = do
  node ← declared_of reading.nodes number
  seq ← number_of sequence
  ledger ← ledger_id_of reading.names id
  full ← full_of kind
  Ok (ask.Issue node seq ledger full)

-- `i seq id full`, or `partial`
abbrev pub asked_issue : Reading → List (List ℕ) → Result Ask SchedRefusal
asked_issue reading (number ∷ sequence ∷ id ∷ kind ∷ []) = issue_of reading number sequence id kind
asked_issue reading arguments = miscounted arguments

-- `issue i seq id full`, or `partial`
abbrev pub issue_event : Reading → List (List ℕ) → Result What SchedRefusal
issue_event reading arguments = do
  asked ← asked_issue reading arguments
  Ok (what.Ask asked)

-- `i`
abbrev pub asked_timer : Reading → List (List ℕ) → Result Ask SchedRefusal
asked_timer reading (number ∷ []) = do
  node ← declared_of reading.nodes number
  Ok (ask.Timer node)
asked_timer reading arguments = miscounted arguments

-- `timer i`
abbrev pub timer_event : Reading → List (List ℕ) → Result What SchedRefusal
timer_event reading arguments = do
  asked ← asked_timer reading arguments
  Ok (what.Ask asked)

-- `timers`
abbrev pub timers_event : List (List ℕ) → Result What SchedRefusal
timers_event [] = Ok what.Timers
timers_event arguments = miscounted arguments

-- `submit i id`
abbrev pub submit_event : Reading → List (List ℕ) → Result What SchedRefusal
submit_event reading (number ∷ id ∷ []) = do
  node ← declared_of reading.nodes number
  tx ← tx_id_of reading.names id
  Ok (what.Submit node tx)
submit_event reading arguments = miscounted arguments

-- `deliver k`
abbrev pub deliver_event : ℕ → List (List ℕ) → Result What SchedRefusal
deliver_event sent (number ∷ []) = do
  place ← place_of sent number
  Ok (what.Deliver place)
deliver_event sent arguments = miscounted arguments

-- `all`
abbrev pub all_event : List (List ℕ) → Result What SchedRefusal
all_event [] = Ok what.All
all_event arguments = miscounted arguments

-- `drop`
abbrev pub drop_event : List (List ℕ) → Result What SchedRefusal
drop_event [] = Ok what.Drop
drop_event arguments = miscounted arguments

-- whether a number is another than this one, and declared, as an honest node or as a liar
abbrev pub is_peer : Reading → ℕ → ℕ → Bool
is_peer reading node other = not (other == node) && (is_on reading.nodes other || is_on reading.liars other)

-- the number of a peer
abbrev pub peer_of : Reading → ℕ → List ℕ → Result ℕ SchedRefusal
peer_of reading node token = do
  other ← member_of token
  if is_peer reading node other then Ok other else Err (Absent token)

-- `greet i j`
abbrev pub greet_event : Reading → List (List ℕ) → Result What SchedRefusal
greet_event reading (number ∷ other ∷ []) = do
  node ← declared_of reading.nodes number
  peer ← peer_of reading node other
  Ok (what.Greet node peer)
greet_event reading arguments = miscounted arguments

-- `restart i`
abbrev pub restart_event : Reading → List (List ℕ) → Result What SchedRefusal
restart_event reading (number ∷ []) = do
  node ← declared_of reading.nodes number
  Ok (what.Restart node)
restart_event reading arguments = miscounted arguments

-- 1 to 8,240 bytes, as hexadecimal digits of either case
abbrev pub raw_bytes_of : List ℕ → Result (List ℕ) SchedRefusal
raw_bytes_of digits = do
  bytes ← ok_or (result_ok (decode_of digits)) (Id digits)
  if nat_le 1 (length bytes) && nat_le (length bytes) most_raw_bytes then Ok bytes else Err (Id digits)

-- `raw t digits`
abbrev pub raw_event : Reading → List (List ℕ) → Result What SchedRefusal
raw_event reading (honest ∷ digits ∷ []) = do
  to ← declared_of reading.nodes honest
  bytes ← raw_bytes_of digits
  Ok (what.Raw to bytes)
raw_event reading arguments = miscounted arguments

-- the parts of a list's line from left to right, and then the list
abbrev pub list_of : Reading → List ℕ → List ℕ → List ℕ → Result What SchedRefusal
list_of reading number quorum members = do
  node ← declared_of reading.nodes number
  least ← number_of quorum
  numbers ← members_of members
  list ← trusted_of numbers least
  Ok (what.List node list)

-- `i q list`
abbrev pub set_list : Reading → List (List ℕ) → Result What SchedRefusal
set_list reading (number ∷ quorum ∷ members ∷ []) = list_of reading number quorum members
set_list reading arguments = miscounted arguments

-- `list i q list`, if not as many stood before as may be
abbrev pub list_event : Reading → List (List ℕ) → Result What SchedRefusal
list_event reading arguments =
    if nat_lt reading.lists most_lists then set_list reading arguments else Err (Limit (decimal most_lists))

-- `heard i`
abbrev pub heard_event : Reading → List (List ℕ) → Result What SchedRefusal
heard_event reading (number ∷ []) = do
  node ← declared_of reading.nodes number
  Ok (what.Heard node)
heard_event reading arguments = miscounted arguments

-- `prefer i`
abbrev pub prefer_event : Reading → List (List ℕ) → Result What SchedRefusal
prefer_event reading (number ∷ []) = do
  node ← declared_of reading.nodes number
  Ok (what.Prefer node)
prefer_event reading arguments = miscounted arguments
