-- What a reader knows. Source: this project's schedule language.
use Rattle.std.specs.Prelude.{◌≡◌, ℕ, ◌+◌, Bool, true, false, List, [], ◌∷◌, ◌++◌}
use Rattle.std.specs.Prelude.{Some, None}
use Rattle.xl_ledger.specs.Headers.{header_id}
use Rattle.xl_lists.specs.Lists.{is_on}
use Rattle.xl_sched.specs.declared.event.What.{What}
use Rattle.xl_sched.specs.declared.event.What.TheVariants as what
use Rattle.xl_sched.specs.declared.line.Line.{Line}
use Rattle.xl_sched.specs.declared.line.Line.TheVariants as line
use Rattle.xl_sched.specs.declared.named.Named.{Named}
use Rattle.xl_sched.specs.Names.{root}

-- what a reader knows of the lines that it has read
pub record Reading : Type 0 where
  -- how many they were
  pub lines : ℕ
  -- the moment in force, in milliseconds
  pub now : ℕ
  -- whether an event was among them
  pub started : Bool
  -- whether a line said how many ledgers a node may know
  pub limited : Bool
  -- whether a line said the version of the nodes' validations
  pub spoken : Bool
  -- how many events set a list
  pub lists : ℕ
  -- the honest nodes in the order of their declaration
  pub nodes : List ℕ
  -- the liars in the order of theirs
  pub liars : List ℕ
  -- the names in the order of their declaration, `root` first
  pub names : List Named

-- before the first line
abbrev pub opened : Reading
opened = record {
  lines = 0;
  now = 1000;
  started = false;
  limited = false;
  spoken = false;
  lists = 0;
  nodes = [];
  liars = [];
  names = root ∷ [];
}

-- a number that was declared neither as an honest node nor as a liar
abbrev pub IsUndeclared : Reading → ℕ → Type 0
IsUndeclared reading me = (is_on reading.nodes me ≡ false) × (is_on reading.liars me ≡ false)

-- one line more was read
abbrev pub counted : Reading → Reading
counted reading = record reading { lines = reading.lines + 1 }

-- one name more
abbrev pub naming : Reading → Named → Reading
naming reading named = record (counted reading) { names = reading.names ++ named ∷ [] }

-- how many lists what happens sets
abbrev pub lists_in : What → ℕ
lists_in (what.List node list) = 1
lists_in other = 0

-- what is known after a line
abbrev pub after : Reading → Line → Reading
after reading (line.Node me list validating) = record (counted reading) { nodes = reading.nodes ++ me ∷ [] }
after reading (line.Liar me) = record (counted reading) { liars = reading.liars ++ me ∷ [] }
after reading (line.Name name id) = naming reading (record { name = name; id = id; header = None })
after reading (line.Limit limit) = record (counted reading) { limited = true }
after reading (line.Ledger name parent header) =
    naming reading (record { name = name; id = (header_id header).0; header = Some header })
after reading (line.At at) = record (counted reading) { now = at }
after reading (line.Speak version) = record (counted reading) { spoken = true }
after reading (line.Event event) =
    record (counted reading) { started = true; lists = reading.lists + lists_in event.what }
