-- What a command promises of the text that it writes about its input. Source: this project's own.
use Rattle.std.specs.Prelude.{◌≡◌, ◌≢◌, ◌<◌, ℕ, List, [], length}
use Rattle.xl_base.specs.Faults.{Rose}
use Rattle.xl_lines.specs.declared.fault.Fault.{Fault}
use Rattle.xl_lines.specs.declared.fault.Fault.TheVariants.{Read, Write, Memory}
use Rattle.xl_lines.specs.declared.machine.Verdict.{Verdict}
use Rattle.xl_lines.specs.declared.machine.Verdict.TheVariants.{Good, Refused}
use Rattle.xl_lines.specs.Causes.{IsAloud}
use Rattle.xl_lines.specs.Rules.{Told}
use Rattle.xl_lines.specs.Soon.{silence}
use Rattle.xl_lines.specs.Ends.{ReadsOn}

-- how far a command reads its input
pub data Reads : Type 0 where
  -- to the end, unless something is refused
  on : Reads
  -- to the end, unless something is refused or found
  to_what_is_found : Reads
  -- not at all
  nothing : Reads

-- which text that is written whole shows that it is at its end
pub data Showing : Type 0 where
  -- any: there is always some to come until the last byte was read
  always : Showing
  -- any but an empty one: nothing is written before all of it is known
  if_some : Showing
  -- one behind which no read failed: its last lines may be written before the end is read
  if_read : Showing

pub record Promise : Type 0 where
  -- what is written about all the bytes of the input
  pub told : List ℕ → Told
  -- what is written of these bytes as soon as they have come; it is closed, unless they end the text
  pub soon : List ℕ → Told
  pub reads : Reads
  pub shows : Showing

-- the verdict shows that the input was read to its end
abbrev pub ShowsEnd : Reads → Verdict → Type 0
ShowsEnd on verdict = verdict ≢ Refused
ShowsEnd to_what_is_found verdict = verdict ≡ Good
ShowsEnd nothing verdict = ⊥

-- the text shows that it is at its end, by the counts of the input's faults before and after
abbrev pub IsAtItsEnd : Showing → List ℕ → ℕ → ℕ → Type 0
IsAtItsEnd always text before after = Unit {0}
IsAtItsEnd if_some text before after = 0 < length text
IsAtItsEnd if_read text before after = ¬ (Rose before after)

-- behind a failed read some of the text isn't written
abbrev pub LacksSome : Showing → List ℕ → Type 0
LacksSome always text = Unit {0}
LacksSome if_some text = 0 < length text
LacksSome if_read text = ⊥

-- nor is it with the fault
abbrev pub LeavesOut : Showing → List ℕ → Fault → Type 0
LeavesOut shows text Read = LacksSome shows text
LeavesOut shows text Write = Unit {0}
LeavesOut shows text Memory = ⊥

-- what tells a text reads so far
abbrev pub ReadsSo : {T : Type 0} → Reads → (T → List ℕ → Told) → Type 0
ReadsSo on tells = ReadsOn tells
ReadsSo to_what_is_found tells = Unit {0}
ReadsSo nothing tells = ⊥

-- what tells a text part by part shows its end so
abbrev pub ShowsSo : {T : Type 0} → Showing → (T → List ℕ → Told) → Type 0
ShowsSo always tells = IsAloud tells
ShowsSo if_some tells = ⊥
ShowsSo if_read tells = Unit {0}

-- a text that stands alone, whatever the input
abbrev pub alone : Told → Promise
alone told = record { told = λ _. told; soon = λ _. silence; reads = nothing; shows = always }

-- the same, with no text yet
abbrev pub unwritten : Told → Told
unwritten told = record { text = []; verdict = told.verdict; closed = told.closed }

-- the same text, of which nothing is written before all of it is known
abbrev pub at_once : Promise → Promise
at_once promise = record {
  told = promise.told;
  soon = λ bytes. unwritten (promise.soon bytes);
  reads = promise.reads;
  shows = if_some;
}
