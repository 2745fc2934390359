-- What a heartbeat tells of its node. Source: this project's own.
use Rattle.std.specs.Prelude.{◌≡◌, ℕ, ◌+◌, ◌||◌, ◌⊎◌, nat_le, nat_lt, Bool, true, List, Some, None}
use Rattle.std.specs.declared.option.Option.{Option}
use mathlib.Core.List.{IsPrefix}
use Rattle.xl_base.specs.declared.status.Status.{Status}
use Rattle.xl_core.specs.Core.{Core}
use Rattle.xl_core.specs.CoreLives.{core_after}
use Rattle.xl_store.specs.declared.entry.Entry.{Entry}
use Rattle.xl_store.specs.declared.status.NodeStatus.{NodeStatus}
use Rattle.xl_store.specs.Entries.{life_of}
use Rattle.xl_store.specs.Statuses.{status_of}
use Rattle.xl_status.specs.declared.end.End.{End}
use Rattle.xl_status.specs.declared.look.Look.{Look}
use Rattle.xl_status.specs.Hearings.{after_status}
use Rattle.xl_status.specs.Texts.{status_text, unopened_text}
use Rattle.xl_heartbeat.specs.declared.bulletin.Bulletin.{Bulletin}

-- a text is due from its moment on, or if that lies further ahead than ten seconds
abbrev pub is_due : ℕ → ℕ → Bool
is_due due now = nat_le due now || nat_lt (now + 10000) due

-- what a look at rolls came to is kept, and nothing else changes
pub record Notes {D : Type 0} (outcome : Look) (old new : Bulletin D) : Type 0 where
  pub look : new.look ≡ Some outcome
  pub board : new.board ≡ old.board
  pub profile : new.profile ≡ old.profile
  pub hearing : new.hearing ≡ old.hearing
  pub due : new.due ≡ old.due

-- the same, if there was a look and there is a bulletin
abbrev pub NotesIf : {D : Type 0} → Option Look → Option (Bulletin D) → Option (Bulletin D) → Type 0
NotesIf None old new = new ≡ old
NotesIf (Some look) None new = new ≡ None
NotesIf (Some look) (Some old) None = ⊥
NotesIf (Some look) (Some old) (Some new) = Notes look old new

module _ {D : Type 0} (gives : D → List ℕ → Bool → D → Type 0) where
  -- this text and no other was handed to the board, or none was
  abbrev pub Shows : List ℕ → D → D → Type 0
  Shows text old new = (new ≡ old) ⊎ ((ok : Bool) × gives old text ok new)

  -- the text of this status was handed to the board, unless there was no memory for it
  pub record Tells (status : NodeStatus) (now : ℕ) (old new : Bulletin D) : Type 0 where
    pub profile : new.profile ≡ old.profile
    pub hearing : new.hearing ≡ after_status old.hearing status
    pub due : new.due ≡ now + 10000
    pub look : new.look ≡ old.look
    pub board : Shows (status_text old.profile status new.hearing old.look None) old.board new.board

  -- the same of the end, behind which no text is due
  pub record TellsEnd (status : NodeStatus) (ended : End) (old new : Bulletin D) : Type 0 where
    pub profile : new.profile ≡ old.profile
    pub hearing : new.hearing ≡ after_status old.hearing status
    pub due : new.due ≡ old.due
    pub look : new.look ≡ old.look
    pub board : Shows (status_text old.profile status new.hearing old.look (Some ended)) old.board new.board

  -- the same if no core was opened
  pub record TellsUnopened (ended : Status) (old new : Bulletin D) : Type 0 where
    pub profile : new.profile ≡ old.profile
    pub hearing : new.hearing ≡ old.hearing
    pub due : new.due ≡ old.due
    pub look : new.look ≡ old.look
    pub board : Shows (unopened_text old.profile old.due ended) old.board new.board

  -- What was told of a history, as far as that has come: at some of its places a text was due, and was that of how the
  -- core was there
  pub data Told (start : Core) (first : Bulletin D) : List Entry → Bulletin D → Type 0 where
    nothing : (seen : List Entry) → Told start first seen first
    goes_on : (seen longer : List Entry) (last : Bulletin D) → Told start first seen last → IsPrefix seen longer
        → Told start first longer last
    notes : (seen : List Entry) (look : Look) (mid last : Bulletin D) → Told start first seen mid
        → Notes look mid last → Told start first seen last
    tells : (seen : List Entry) (now : ℕ) (mid last : Bulletin D) → Told start first seen mid
        → is_due mid.due now ≡ true → Tells (status_of (core_after start (life_of seen))) now mid last
        → Told start first seen last

  -- the same, if it is told at all
  abbrev pub ToldIf : Core → Option (Bulletin D) → List Entry → Option (Bulletin D) → Type 0
  ToldIf start None seen last = last ≡ None
  ToldIf start (Some first) seen None = ⊥
  ToldIf start (Some first) seen (Some last) = Told start first seen last
