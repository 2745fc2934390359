-- Serving one member: openings of its link and sessions, one after the other. Source: this project's own.
use Rattle.std.specs.Prelude.{◌≡◌, ℕ, ◌≤◌, ◌⊎◌, Bool, true, List, [], ◌∷◌, ◌++◌, Some, None, if◌then◌else◌}
use Rattle.std.specs.declared.option.Option.{Option}
use Rattle.std.specs.List.{flat_map}
use Rattle.std.specs.Io.KnownBytes.{prepend_known, append_known}
use Rattle.xl_base.specs.Faults.{Rose}
use Rattle.xl_turns.specs.declared.view.Knowledge.{Knowledge}
use Rattle.xl_links.specs.declared.link.Opening.{Opening}
use Rattle.xl_links.specs.declared.link.Opening.TheVariants as opening
use Rattle.xl_links.specs.Links.{Wire, Reading}
use Rattle.xl_links.specs.Tellings.{AddsTold}
use Rattle.xl_core.specs.declared.event.CoreEvent.TheVariants.{Stopped}
use Rattle.xl_core.specs.Answers.{Told}
use Rattle.xl_core.specs.Core.{Core}
use Rattle.xl_store.specs.declared.entry.Entry.{Entry}
use Rattle.xl_store.specs.Calls.{Call, Made}
use Rattle.xl_peers.specs.declared.ends.End.{End}
use Rattle.xl_peers.specs.declared.ends.End.TheVariants as end
use Rattle.xl_peers.specs.declared.ends.Served.{Served}
use Rattle.xl_peers.specs.declared.ends.Served.TheVariants as served
use Rattle.xl_peers.specs.Steps.{Step, calls, bytes_read, bytes_drained, read_answers, tell_answers}
use Rattle.xl_peers.specs.Sessions.{IsTalk}

-- the store was asked whether the node is to stop; the link was opened; a session was held, of which these bytes were
-- written
pub data Deed : Type 0 where
  Asked : Bool → Deed
  Opened : Opening → Deed
  Talked : (steps : List Step) (written : List ℕ) → End → Deed

abbrev pub calls_in : Deed → List Call
calls_in (Asked answer) = record { event = Stopped; answer = Told answer } ∷ []
calls_in (Opened answer) = []
calls_in (Talked steps written e) = calls steps

abbrev pub read_in : Deed → List ℕ
read_in (Asked answer) = []
read_in (Opened answer) = []
read_in (Talked steps written e) = bytes_read steps

abbrev pub drained_in : Deed → List ℕ
drained_in (Asked answer) = []
drained_in (Opened answer) = []
drained_in (Talked steps written e) = bytes_drained steps

abbrev pub written_in : Deed → List ℕ
written_in (Asked answer) = []
written_in (Opened answer) = []
written_in (Talked steps written e) = written

abbrev pub readings_in : Deed → List Reading
readings_in (Asked answer) = []
readings_in (Opened answer) = []
readings_in (Talked steps written e) = read_answers steps

abbrev pub permissions_in : Deed → List Bool
permissions_in (Asked answer) = []
permissions_in (Opened answer) = []
permissions_in (Talked steps written e) = tell_answers steps

abbrev pub opened_in : Deed → List Opening
opened_in (Asked answer) = []
opened_in (Opened answer) = answer ∷ []
opened_in (Talked steps written e) = []

-- what is to be done next
pub data Round : Type 0 where
  Asks : Round
  Opens : Round
  Talks : Round
  Over : Round

abbrev pub after_answer : Bool → Round
after_answer answer = if answer then Over else Opens

abbrev pub after_opening : Opening → Round
after_opening opening.Open = Talks
after_opening opening.NotYet = Asks
after_opening opening.Failed = Asks

-- a session that the store ended is the last one
abbrev pub served_of : End → Option Served
served_of end.Stopped = Some served.Stopped
served_of (end.StoreFull n) = Some (served.StoreFull n)
served_of other = None

abbrev pub after_session : Option Served → Round
after_session None = Asks
after_session (Some s) = Over

-- The store is asked, the link is opened, and if that answered Open a session is held
pub data IsServing (may_give : ℕ → Bool) (member : ℕ) : List Deed → Round → Type 0 where
  begins : IsServing may_give member [] Asks
  asks : (deeds : List Deed) (answer : Bool) → IsServing may_give member deeds Asks
      → IsServing may_give member (deeds ++ Asked answer ∷ []) (after_answer answer)
  opens : (deeds : List Deed) (answer : Opening) → IsServing may_give member deeds Opens
      → IsServing may_give member (deeds ++ Opened answer ∷ []) (after_opening answer)
  talks : (deeds : List Deed) (steps : List Step) (written : List ℕ) (e : End)
      → IsServing may_give member deeds Talks
      → IsTalk may_give member steps written e
      → IsServing may_give member (deeds ++ Talked steps written e ∷ []) (after_session (served_of e))

-- A pass's serving of a member, as far as it came, at a store that was opened with this core: its calls stand in the
-- history at the places that the pass gained, and the link gave the bytes that were read, took those that were written,
-- and answered these openings, these reads and these questions. If its count didn't rise, all that was drained was written
pub record Serving
    (start : Core) (may_give : ℕ → Bool) (member : ℕ)
    (old : Knowledge Entry) (old_link : Wire) (round : Round) (new : Knowledge Entry) (new_link : Wire) : Type 0 where
  pub deeds : List Deed
  pub run : IsServing may_give member deeds round
  pub made : Made start old new (flat_map calls_in deeds)
  pub drawn : old.drawn ≤ new.drawn
  pub read : old_link.left ≡ prepend_known (flat_map read_in deeds) new_link.left
  pub took : new_link.took ≡ append_known old_link.took (flat_map written_in deeds)
  pub all : Rose old_link.faults new_link.faults ⊎ (flat_map written_in deeds ≡ flat_map drained_in deeds)
  pub openings : AddsTold old_link.openings new_link.openings (flat_map opened_in deeds)
  pub readings : AddsTold old_link.readings new_link.readings (flat_map readings_in deeds)
  pub permissions : AddsTold old_link.permissions new_link.permissions (flat_map permissions_in deeds)
  pub later : old_link.faults ≤ new_link.faults

-- the last deed
abbrev pub IsLastDeed : List Deed → Deed → Type 0
IsLastDeed deeds deed = (earlier : List Deed) × (deeds ≡ earlier ++ deed ∷ [])

-- the store said so, to the serving itself or to its last session; or all turns are drawn
abbrev pub IsReason : ℕ → List Deed → Knowledge Entry → Served → Type 0
IsReason turns deeds k served.Stopped =
    IsLastDeed deeds (Asked true)
    ⊎ ((steps : List Step) × (written : List ℕ) × IsLastDeed deeds (Talked steps written end.Stopped))
IsReason turns deeds k (served.StoreFull n) = (n ≡ turns) × (k.drawn ≡ turns)

-- the whole serving, at a store that has this many turns
pub record Serves
    (start : Core) (turns : ℕ) (may_give : ℕ → Bool) (member : ℕ)
    (old : Knowledge Entry) (old_link : Wire) (why : Served) (new : Knowledge Entry) (new_link : Wire) : Type 0 where
  pub round : Round
  pub serving : Serving start may_give member old old_link round new new_link
  pub reason : IsReason turns serving.deeds new why

-- the link was opened once, whatever that was answered
abbrev pub IsOpened : Wire → Wire → Type 0
IsOpened old new = (answer : Opening) × AddsTold old.openings new.openings (answer ∷ [])

-- it goes on, or is over
abbrev pub Follows : Core → ℕ → (ℕ → Bool) → ℕ
    → Knowledge Entry → Wire → Option Served → Knowledge Entry → Wire → Type 0
Follows start turns may_give member old old_link None new new_link =
    Serving start may_give member old old_link Asks new new_link
Follows start turns may_give member old old_link (Some why) new new_link =
    Serves start turns may_give member old old_link why new new_link
