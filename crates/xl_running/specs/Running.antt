-- A schedule that runs. Source: this project's schedule language.
use Rattle.std.specs.Prelude.{ℕ, ◌≤◌, List, [], ◌∷◌, ◌++◌, length, unwrap_or}
use Rattle.std.specs.Prelude.{Some, None}
use Rattle.std.specs.declared.option.Option.{Option}
use Rattle.xl_base.specs.Moments.{greatest_millis}
use Rattle.xl_ledger.specs.Limits.{least_limit}
use Rattle.xl_lines.specs.declared.limits.Limits.{Limits}
use Rattle.xl_lines.specs.declared.limits.Returns.TheVariants.{Dropped}
use Rattle.xl_sched.specs.declared.event.Event.{Event}
pub use Rattle.xl_sched.specs.BadLines.{beyond}
use Rattle.xl_sched.specs.Limits.{most_bytes, most_ledgers, most_lines}
use Rattle.xl_sched.specs.declared.line.Line.{Line}
use Rattle.xl_sched.specs.declared.line.Line.TheVariants as line
use Rattle.xl_sched.specs.Reading.{Reading, opened}
use Rattle.xl_sched.specs.Answers.{LineAnswer, reading_of}
use Rattle.xl_world.specs.declared.plan.PlanNode.{PlanNode}
use Rattle.xl_world.specs.Schedule.{IsPlausible, after_event}
use Rattle.xl_world.specs.World.{World}
use Rattle.xl_world.specs.Plans.{Shared}
use Rattle.xl_world.specs.Starts.{start}
use Rattle.xl_running.specs.Defaults.{default_limit, default_speak}

-- what is known of a schedule so far: what was read, how many ledgers each node may know and the version of its
-- validations, the nodes and liars that are declared, and from the first event on the world
pub record Running : Type 0 where
  pub reading : Reading
  pub shared : Shared
  pub plan : List PlanNode
  pub liars : List ℕ
  pub world : Option World

-- before the first line
abbrev pub at_first : Running
at_first = record {
  reading = opened;
  shared = record { limit = default_limit; speak = default_speak };
  plan = [];
  liars = [];
  world = None;
}

-- the world so far; before the first event it is the one of the plan
abbrev pub world_of : Running → World
world_of r = unwrap_or r.world (start r.shared r.liars r.plan)

-- the answer of the reader to a line
abbrev pub answer_in : Running → List ℕ → LineAnswer
answer_in r bytes = reading_of r.reading (length (world_of r).sent) bytes

-- with what the reader knows after a line
abbrev pub knows : Running → Reading → Running
knows r reading = record r { reading = reading }

-- with this world
abbrev pub in_world : Running → World → Running
in_world r w = record r { world = Some w }

-- with what a line that was read declares
abbrev pub declares : Running → Line → Running
declares r (line.Limit limit) = record r { shared = record r.shared { limit = limit } }
declares r (line.Speak version) = record r { shared = record r.shared { speak = version } }
declares r (line.Node me list validating) =
    let node : PlanNode = record { me = me; list = list; validating = validating; moment = r.reading.now } in
    record r { plan = r.plan ++ node ∷ [] }
declares r (line.Liar me) = record r { liars = r.liars ++ me ∷ [] }
declares r other = r

-- an event is a step of the world
abbrev pub happens : Running → Event → Running
happens r e = in_world r (after_event (world_of r) e)

-- a line's limit, or its event's moment and the set that a liar says in it or the list that it hands in, is one that
-- there may be
abbrev pub IsInRange : Line → Type 0
IsInRange (line.Limit limit) = (least_limit ≤ limit) × (limit ≤ most_ledgers)
IsInRange (line.Event event) = (event.at ≤ greatest_millis) × IsPlausible event.what
IsInRange other = Unit {0}

abbrev pub limits : Limits
limits = record { lines = most_lines; bytes = most_bytes; returns = Dropped }
