-- The calls of a history, and those of them that one pass made.
-- Source: linearizability (Herlihy and Wing, 1990); what a pass tells of its own calls is this project's own.
use Rattle.std.specs.Prelude.{◌≡◌, ℕ, ◌+◌, ◌≤◌, List, [], ◌∷◌, ◌++◌, length, map, Some, slice_get}
use mathlib.Core.List.{IsPrefix}
use Rattle.xl_turns.specs.declared.view.Knowledge.{Knowledge}
use Rattle.xl_core.specs.declared.event.CoreEvent.{CoreEvent}
use Rattle.xl_core.specs.Answers.{Answer}
use Rattle.xl_core.specs.Core.{Core}
use Rattle.xl_store.specs.declared.entry.Entry.{Entry}
use Rattle.xl_store.specs.Entries.{reply_of}

-- an event, and what it was answered
pub record Call : Type 0 where
  pub event : CoreEvent
  pub answer : Answer

-- the calls of a history, each answered by the core's step there
abbrev pub calls_of : Core → List Entry → List Call
calls_of core [] = []
calls_of core (e ∷ es) =
    record { event = e.event; answer = (reply_of core e).answer } ∷ calls_of (reply_of core e).core es

-- at these places of the history stand these calls
abbrev pub StandAt : Core → List Entry → List ℕ → List Call → Type 0
StandAt start history places calls = map (slice_get (calls_of start history)) places ≡ map Some calls

-- places that rise, from this one on and below that one
abbrev pub Rise : ℕ → List ℕ → ℕ → Type 0
Rise low [] high = low ≤ high
Rise low (p ∷ ps) high = (low ≤ p) × Rise (p + 1) ps high

-- The pass made these calls and no others: they stand at new places of its own, behind all that it had seen
pub record Made (start : Core) (old new : Knowledge Entry) (calls : List Call) : Type 0 where
  pub places : List ℕ
  pub mine : new.mine ≡ old.mine ++ places
  pub rise : Rise (length old.seen) places (length new.seen)
  pub stand : StandAt start new.seen places calls
  pub begins : IsPrefix old.seen new.seen
  pub share : new.share ≡ old.share

-- an entry of the event is the last that the pass has seen, and its place the last of its own
pub record IsLast (event : CoreEvent) (old new : Knowledge Entry) : Type 0 where
  pub earlier : List Entry
  pub entry : Entry
  pub seen : new.seen ≡ earlier ++ entry ∷ []
  pub tells : entry.event ≡ event
  pub mine : new.mine ≡ old.mine ++ length earlier ∷ []
