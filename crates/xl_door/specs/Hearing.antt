-- One line of a door, as the parts of a round say it.
-- Source: what the code of this crate relies on. No public clause cites this file.
use Rattle.std.specs.Prelude.{◌≡◌, ℕ, ◌≤◌, ◌⊎◌, Bool, List}
use mathlib.Core.List.{IsPrefix}
use Rattle.std.specs.Io.KnownBytes.{append_known}
use Rattle.xl_base.specs.Faults.{Rose}
use Rattle.xl_turns.specs.declared.view.Knowledge.{Knowledge}
use Rattle.xl_links.specs.Doors.{Doorway}
use Rattle.xl_core.specs.Core.{Core}
use Rattle.xl_store.specs.declared.entry.Entry.{Entry}
use Rattle.xl_store.specs.Calls.{Call, Made}
use Rattle.xl_door.specs.declared.ends.Attended.{Attended}
use Rattle.xl_door.specs.declared.ends.Attended.TheVariants as attended
use Rattle.xl_door.specs.declared.replies.Reply.{Reply}
use Rattle.xl_door.specs.Rounds.{Round, IsReply, IsRound, said_in, lines_in, taken_in, counted_in}
use Rattle.xl_door.specs.Attending.{Passes}

-- behind the question whether to stop, the pass made what a round says
pub record Hears (start : Core) (may_give : ℕ → Bool) (old : Knowledge Entry) (old_door : Doorway)
    (new : Knowledge Entry) (new_door : Doorway) : Type 0 where
  pub round : Round
  pub is : IsRound may_give round
  pub made : Made start old new (said_in round)
  pub drawn : old.drawn ≤ new.drawn
  pub door : Passes old_door (lines_in round) (taken_in round) (counted_in old_door.faults round) new_door

-- the pass made the calls for a line that is answered so
pub record IsSaid (start : Core) (may_give : ℕ → Bool) (old : Knowledge Entry) (line : List ℕ) (reply : Reply)
    (new : Knowledge Entry) : Type 0 where
  pub calls : List Call
  pub is : IsReply may_give line calls reply
  pub made : Made start old new calls
  pub drawn : old.drawn ≤ new.drawn

-- a client took a front of the text, and all of it unless the door's count rose
pub record Tells (text : List ℕ) (old new : Doorway) : Type 0 where
  pub taken : List ℕ
  pub front : IsPrefix taken text
  pub took : new.took ≡ append_known old.took taken
  pub left : new.left ≡ old.left
  pub all : Rose old.faults new.faults ⊎ (taken ≡ text)
  pub later : old.faults ≤ new.faults

-- attending is over behind a line only if all turns are drawn
abbrev pub IsFull : ℕ → Knowledge Entry → Attended → Type 0
IsFull turns k attended.Stopped = ⊥
IsFull turns k (attended.StoreFull n) = (n ≡ turns) × (k.drawn ≡ turns)
