-- What `xl negative` writes of a schedule: its lines, and behind each the lists that its nodes then go over to. Source:
-- this project's negative lists.
use Rattle.std.specs.Prelude.{ℕ, ◌%◌, ◌==◌, ◌&&◌, ◌||◌, Bool, nat_lt, List, [], ◌∷◌, ◌++◌, is_some, if◌then◌else◌}
use Rattle.std.specs.Prelude.{Some, None}
use Rattle.std.specs.declared.option.Option.{Option}
use Rattle.xl_base.specs.declared.ids.LedgerId.{LedgerId}
use Rattle.xl_base.specs.Counts.{one_more}
use Rattle.xl_ledger.specs.declared.header.Header.{Header}
use Rattle.xl_ledger.specs.Chains.{place_of, seq_at}
use Rattle.xl_lists.specs.Lists.{TrustedList}
use Rattle.xl_lines.specs.declared.machine.Verdict.TheVariants.{Good, Refused}
use Rattle.xl_lines.specs.Lines.{without_return}
use Rattle.xl_lines.specs.Rules.{Rules, Step, goes_on, refuses as stops, finds, Told, closes}
use Rattle.xl_lines.specs.Told.{told_of}
use Rattle.xl_lines.specs.Soon.{told_soon}
use Rattle.xl_nunl.specs.Deciding.{left_of, joined_of, negative_after}
use Rattle.xl_nunl.specs.Lists.{list_without}
use Rattle.xl_sched.specs.declared.event.Event.{Event}
use Rattle.xl_sched.specs.declared.line.Line.{Line}
use Rattle.xl_sched.specs.declared.line.Line.TheVariants as line
use Rattle.xl_sched.specs.declared.refusal.SchedRefusal.TheVariants.{Header as NoHeader}
use Rattle.xl_sched.specs.Answers.{LineAnswer, passes, gives, refuses}
use Rattle.xl_sched.specs.Reading.{Reading}
use Rattle.xl_spelling.specs.Spellings.{list_line, spelling}
use Rattle.xl_world.specs.declared.outcome.Outcome.{Outcome}
use Rattle.xl_world.specs.declared.outcome.Outcome.TheVariants as outcome
use Rattle.xl_world.specs.Schedule.{outcomes}
use Rattle.xl_world.specs.World.{World, core_in}
use Rattle.xl_core.specs.Core.{Core}
use Rattle.xl_running.specs.Running.{Running, answer_in, at_first as running_at_first, beyond, declares, happens, knows, limits, world_of}
use Rattle.xl_running.specs.Texts.{bad_line, newline}
use Rattle.xl_negative.specs.Hearing.{heard_at}
use Rattle.xl_negative.specs.Keeping.{Keeping}
use Rattle.xl_negative.specs.Listing.{list_keeping}
use Rattle.xl_negative.specs.Seats.{Seat, no_seats, seat_at, hears, after_what, with_listing, with_leaving_out}

pub record Writing (H : Type 0) : Type 0 where
  -- the schedule that is written, as it runs: its reader reads the lines that are added too
  pub running : Running
  -- how many lines of the input were read; the count ends at the greatest `u64`
  pub lines : ℕ
  pub seats : List (Seat H)

-- before the first line
abbrev pub at_first : {H : Type 0} → Keeping H → Writing H
at_first keeping = record { running = running_at_first; lines = 0; seats = no_seats keeping }

-- a line of what is written
abbrev pub as_line : List ℕ → List ℕ
as_line bytes = bytes ++ newline

-- a line that was read is taken in
abbrev pub takes : Running → Line → Running
takes r (line.Limit limit) = declares r (line.Limit limit)
takes r (line.Speak version) = declares r (line.Speak version)
takes r (line.Node me list validating) = declares r (line.Node me list validating)
takes r (line.Liar me) = declares r (line.Liar me)
takes r (line.Name name id) = declares r (line.Name name id)
takes r (line.Ledger name parent header) = declares r (line.Ledger name parent header)
takes r (line.At at) = declares r (line.At at)
takes r (line.Event e) = happens r e

abbrev pub with_running : {H : Type 0} → Writing H → Running → Writing H
with_running s r = record s { running = r }

-- a line is added behind what is written so far, and read and run like any other. If it is refused, the number is
-- that of the input's line
abbrev pub step_adding : {H : Type 0} → Writing H → List ℕ → List ℕ → LineAnswer → Step (Writing H)
step_adding s text bytes (passes reading) = goes_on (text ++ as_line bytes) (with_running s (knows s.running reading))
step_adding s text bytes (gives l reading) = goes_on (text ++ as_line bytes) (with_running s (takes (knows s.running reading) l))
step_adding s text bytes (refuses why) = stops (text ++ bad_line s.lines why)

abbrev pub adds : {H : Type 0} → Writing H → List ℕ → Line → Step (Writing H)
adds s text l = step_adding s text (spelling l) (answer_in s.running (spelling l))

-- what a node goes over to: the members of its full list that it leaves out from now on, and the list without them
pub record Change : Type 0 where
  pub negative : List ℕ
  pub list : TrustedList

abbrev pub change_to : List ℕ → List ℕ → Change
change_to full negative = record { negative = negative; list = list_without full negative }

-- what a decision changes, if it does
abbrev pub change_of : List ℕ → List ℕ → List ℕ → ℕ → Option Change
change_of full negative scores i =
    if is_some (left_of full negative scores i) || is_some (joined_of full negative scores i) then
    Some (change_to full (negative_after negative (left_of full negative scores i) (joined_of full negative scores i)))
    else None

-- the change of a node is written: the line by which it goes over to its list
abbrev pub goes_over : {H : Type 0} → Keeping H → Writing H → List ℕ → ℕ → Option Change → Step (Writing H)
goes_over keeping s text i None = goes_on text s
goes_over keeping s text i (Some change) =
    adds (record s { seats = with_leaving_out keeping s.seats i change.negative }) text
    (list_line s.running.reading i change.list)

-- the ledgers that the node of a number knows
abbrev pub ledgers_in : Option Core → List Header
ledgers_in None = []
ledgers_in (Some core) = core.node.ledgers.headers

abbrev pub ledgers_at : Option World → ℕ → List Header
ledgers_at None i = []
ledgers_at (Some w) i = ledgers_in (core_in w i)

-- a known ledger, if it is of this sequence
abbrev pub of_sequence : List Header → ℕ → Option ℕ → Option ℕ
of_sequence ledgers seq None = None
of_sequence ledgers seq (Some ledger) = if seq_at ledgers ledger == seq then Some ledger else None

abbrev pub flag_in : List Header → ℕ → LedgerId → Option ℕ
flag_in ledgers seq id = of_sequence ledgers seq (place_of ledgers id)

-- each 256th sequence is a flag
abbrev pub is_flag : ℕ → Bool
is_flag seq = seq % 256 == 0 && nat_lt 0 seq

-- what the node of a number changes at a flag ledger that it knows, by what it heard
abbrev pub change_by : {H : Type 0} → Keeping H → Seat H → ℕ → List Header → Option ℕ → Option TrustedList →
    Option Change
change_by keeping seat i ledgers None full = None
change_by keeping seat i ledgers (Some flag) None = None
change_by keeping seat i ledgers (Some flag) (Some full) =
    change_of full.members seat.negative (keeping.scores ledgers seat.heard flag) i

-- and at a report of its own
abbrev pub change_at : {H : Type 0} → Keeping H → Seat H → ℕ → List Header → ℕ → LedgerId → Option Change
change_at keeping seat i ledgers seq id =
    if is_flag seq then change_by keeping seat i ledgers (flag_in ledgers seq id) seat.full else None

-- a node reported a ledger
abbrev pub after_report : {H : Type 0} → Keeping H → Writing H → List ℕ → ℕ → ℕ → LedgerId → Step (Writing H)
after_report keeping s text i seq id =
    goes_over keeping s text i
    (change_at keeping (seat_at keeping s.seats i) i (ledgers_at s.running.world i) seq id)

abbrev pub after_outcome : {H : Type 0} → Keeping H → Writing H → List ℕ → Outcome → Step (Writing H)
after_outcome keeping s text (outcome.Full i seq id) = after_report keeping s text i seq id
after_outcome keeping s text other = goes_on text s

-- further on, unless the text ends there
unfoldable pub and_then : {H : Type 0} → (Writing H → List ℕ → Step (Writing H)) → Step (Writing H) → Step (Writing H)
and_then further (goes_on text s) = further s text
and_then further (stops text) = stops text
and_then further (finds text) = finds text

-- the decisions on what came of an event, in order, behind the text so far
abbrev pub after_outcomes : {H : Type 0} → Keeping H → Writing H → List ℕ → List Outcome → Step (Writing H)
after_outcomes keeping s text [] = goes_on text s
after_outcomes keeping s text (o ∷ os) =
    and_then (λ next further. after_outcomes keeping next further os) (after_outcome keeping s text o)

-- an event of the input is run, and what nodes hear in it is kept
abbrev pub after_event : {H : Type 0} → Keeping H → Writing H → Event → Writing H
after_event keeping s e = record s {
  running = happens s.running e;
  seats = after_what keeping (hears keeping s.seats (heard_at (world_of s.running) e)) e.what;
}

-- what a line of the input declares; a node has the list that it declares
abbrev pub after_declaration : {H : Type 0} → Keeping H → Writing H → Line → Writing H
after_declaration keeping s (line.Node me list validating) =
    record (with_running s (declares s.running (line.Node me list validating))) {
      seats = with_listing keeping s.seats me list;
    }
after_declaration keeping s other = with_running s (declares s.running other)

-- what a line of the input says is taken in, behind the text so far
abbrev pub after_line : {H : Type 0} → Keeping H → Writing H → List ℕ → Line → Step (Writing H)
after_line keeping s text (line.Event e) = after_outcomes keeping (after_event keeping s e) text (outcomes (world_of s.running) e)
after_line keeping s text other = goes_on text (after_declaration keeping s other)

-- one more line of the input was read
abbrev pub with_line_counted : {H : Type 0} → Writing H → Reading → Writing H
with_line_counted s reading = record s { running = knows s.running reading; lines = one_more s.lines }

-- a line of the input as it is written: it is handed on without a return before its newline, and one at the end of the
-- input is left out too
abbrev pub copied : List ℕ → Bool → List ℕ
copied bytes ended = if ended then bytes else without_return bytes

abbrev pub after_answer : {H : Type 0} → Keeping H → Writing H → List ℕ → Bool → LineAnswer → Step (Writing H)
after_answer keeping s bytes ended (passes reading) = goes_on (as_line (copied bytes ended)) (with_line_counted s reading)
after_answer keeping s bytes ended (gives l reading) =
    after_line keeping (with_line_counted s reading) (as_line (copied bytes ended)) l
after_answer keeping s bytes ended (refuses why) = stops (bad_line (one_more s.lines) why)

-- the end of a schedule: one with no line lacks its header
abbrev pub told_at_end : {H : Type 0} → Writing H → Told
told_at_end s = if s.lines == 0 then closes (bad_line 1 (NoHeader [])) Refused else closes [] Good

abbrev pub rules : {H : Type 0} → Keeping H → Rules (Writing H)
rules keeping = record {
  step = λ s bytes ended. after_answer keeping s bytes ended (answer_in s.running bytes);
  overrun = λ s overrun. bad_line (one_more s.lines) (beyond overrun);
  closing = told_at_end;
}

-- what is written of a schedule, and what it says: the list of all that was heard says it
abbrev pub negative_of : List ℕ → Told
negative_of bytes = told_of limits (rules list_keeping) (at_first list_keeping) bytes

-- what is written as soon as these bytes have come
abbrev pub negative_soon : List ℕ → Told
negative_soon bytes = told_soon limits (rules list_keeping) (at_first list_keeping) bytes
