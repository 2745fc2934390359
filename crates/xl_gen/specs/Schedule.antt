-- The schedule that is made for a number of rounds. Seven nodes trust each other, and each has its timer once a
-- second. In each round there is a transaction that only three of them have at first. Source: this project's own.
use Rattle.std.specs.Prelude.{ℕ, ◌+◌, ◌*◌, ◌/◌, ◌%◌, ◌==◌, ◌&&◌, nat_le, List, [], ◌∷◌, ◌++◌, map, length, replicate, true, if◌then◌else◌}
use Rattle.std.specs.Int.{w32, to_be_bytes}
use Rattle.std.specs.List.{flat_map}
use Rattle.xl_base.specs.declared.ids.TxId.{TxId}
use Rattle.xl_lists.specs.Lists.{TrustedList}
use Rattle.xl_sched.specs.declared.event.Event.{Event}
use Rattle.xl_sched.specs.declared.event.What.{What}
use Rattle.xl_sched.specs.declared.event.What.TheVariants.{Timers, Submit, All}
use Rattle.xl_sched.specs.declared.line.Line.{Line}
use Rattle.xl_sched.specs.declared.line.Line.TheVariants as line
use Rattle.xl_world.specs.declared.outcome.Outcome.{Outcome}
use Rattle.xl_world.specs.declared.plan.PlanNode.{PlanNode}
use Rattle.xl_world.specs.Plans.{up_from}
use Rattle.xl_world.specs.Schedule.{after_event, outcomes}
use Rattle.xl_world.specs.Starts.{start}
use Rattle.xl_world.specs.World.{World}
use Rattle.xl_running.specs.Defaults.{default_limit, default_speak}
use Rattle.xl_gen.specs.Sizes.{first_moment}

-- the moment of a second
abbrev pub moment_of : ℕ → ℕ
moment_of second = first_moment + 1000 * second

-- the transaction of a number: its 32 bytes, the most significant first
abbrev pub tx_of : ℕ → TxId
tx_of number = record { 0 = replicate 28 0 ++ to_be_bytes w32 number }

-- the seven, who trust each other, with the usual quorum
abbrev pub everyone : List ℕ
everyone = 1 ∷ 2 ∷ 3 ∷ 4 ∷ 5 ∷ 6 ∷ 7 ∷ []

abbrev pub list : TrustedList
list = record { members = everyone; quorum = 6 }

abbrev pub node_of : ℕ → PlanNode
node_of me = record { me = me; list = list; validating = true; moment = first_moment }

abbrev pub plan : List PlanNode
plan = map node_of everyone

-- the transaction of a number is submitted at nodes
abbrev pub submits : List ℕ → ℕ → List What
submits nodes number = map (λ node. Submit node (tx_of number)) nodes

-- what is submitted in a second: the first transaction at one node, and in the second in which a round closes the one
-- of the next round at three
abbrev pub submissions_in : ℕ → List What
submissions_in second =
    if second == 1 then submits (1 ∷ []) 1
    else if nat_le 8 second && second % 4 == 0 then submits (1 ∷ 2 ∷ 3 ∷ []) (second / 4)
    else []

-- what happens in a second: then all have a timer, and all that is sent arrives
abbrev pub events_in : ℕ → List What
events_in second = submissions_in second ++ Timers ∷ All ∷ []

abbrev pub event_at : ℕ → What → Event
event_at at what = record { at = at; what = what }

abbrev pub events_at : ℕ → List What → List Event
events_at at whats = map (event_at at) whats

abbrev pub events_of : ℕ → List Event
events_of second = events_at (moment_of second) (events_in second)

-- so many seconds so many rounds take
abbrev pub seconds : ℕ → ℕ
seconds rounds = 4 * rounds + 7

-- all that happens
abbrev pub events : ℕ → List Event
events rounds = flat_map events_of (up_from 1 (seconds rounds))

-- the lines of a second
abbrev pub second_lines : ℕ → List Line
second_lines second = line.At (moment_of second) ∷ map line.Event (events_of second)

-- the line that declares a node
abbrev pub node_line : ℕ → Line
node_line me = line.Node me list true

-- the lines after the first, which is the header
abbrev pub lines : ℕ → List Line
lines rounds = line.At first_moment ∷ map node_line everyone ++ flat_map second_lines (up_from 1 (seconds rounds))

-- the world before anything happens
abbrev pub at_first : World
at_first = start (record { limit = default_limit; speak = default_speak }) [] plan

-- the world after these events
abbrev pub after : World → List Event → World
after w [] = w
after w (e ∷ es) = after (after_event w e) es

-- what is told of them
abbrev pub outcomes_of : World → List Event → List Outcome
outcomes_of w [] = []
outcomes_of w (e ∷ es) = outcomes w e ++ outcomes_of (after_event w e) es
