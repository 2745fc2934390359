-- Attending a door: round after round, until the node is to stop. Source: this project's own.
use Rattle.std.specs.Prelude.{◌≡◌, ℕ, ◌≤◌, Bool, true, List, [], ◌∷◌, ◌++◌, Some, None, fold, option_map}
use Rattle.std.specs.declared.option.Option.{Option}
use Rattle.std.specs.List.{AllByRecursion, flat_map}
use Rattle.std.specs.Io.KnownBytes.{append_known}
use Rattle.xl_turns.specs.declared.view.Knowledge.{Knowledge}
use Rattle.xl_links.specs.Doors.{Doorway}
use Rattle.xl_core.specs.Core.{Core}
use Rattle.xl_store.specs.declared.entry.Entry.{Entry}
use Rattle.xl_store.specs.Calls.{Call, Made}
use Rattle.xl_door.specs.declared.ends.Attended.{Attended}
use Rattle.xl_door.specs.declared.ends.Attended.TheVariants as attended
use Rattle.xl_door.specs.Rounds.{Round, IsRound, asked, calls_in, lines_in, taken_in, counted_in}

-- these lines, and then those
abbrev pub lines_before : List (List ℕ) → Option (List (List ℕ)) → Option (List (List ℕ))
lines_before lines left = option_map (λ (later : List (List ℕ)). lines ++ later) left

-- A door gave these lines, its clients took these bytes, and its count is at least this
pub record Passes (old : Doorway) (lines : List (List ℕ)) (taken : List ℕ) (least : ℕ) (new : Doorway) : Type 0 where
  pub left : old.left ≡ lines_before lines new.left
  pub took : new.took ≡ append_known old.took taken
  pub counted : least ≤ new.faults

-- A pass's rounds at a door, at a store that was opened with this core, and then these calls: they stand in the history
-- at the places that the pass gained. The door gave the lines that came, its clients took what they took of the answers,
-- and its count rose for each answer that wasn't taken whole
pub record Attending (start : Core) (may_give : ℕ → Bool)
    (old : Knowledge Entry) (old_door : Doorway) (last : List Call) (new : Knowledge Entry) (new_door : Doorway)
    : Type 0 where
  pub rounds : List Round
  pub each : AllByRecursion (IsRound may_give) rounds
  pub made : Made start old new (flat_map calls_in rounds ++ last)
  pub drawn : old.drawn ≤ new.drawn
  pub door : Passes old_door (flat_map lines_in rounds) (flat_map taken_in rounds) (fold counted_in old_door.faults rounds)
      new_door

-- the last question, if the node is to stop
abbrev pub last_calls : Attended → List Call
last_calls attended.Stopped = asked true ∷ []
last_calls (attended.StoreFull n) = []

-- all turns of the store are drawn, if that is why it ended
abbrev pub IsReason : ℕ → Knowledge Entry → Attended → Type 0
IsReason turns k attended.Stopped = Unit {0}
IsReason turns k (attended.StoreFull n) = (n ≡ turns) × (k.drawn ≡ turns)

-- the whole of it, at a store that has this many turns
pub record Attends (start : Core) (turns : ℕ) (may_give : ℕ → Bool)
    (old : Knowledge Entry) (old_door : Doorway) (why : Attended) (new : Knowledge Entry) (new_door : Doorway)
    : Type 0 where
  pub attending : Attending start may_give old old_door (last_calls why) new new_door
  pub reason : IsReason turns new why

-- it goes on, or is over
abbrev pub Follows : Core → ℕ → (ℕ → Bool)
    → Knowledge Entry → Doorway → Option Attended → Knowledge Entry → Doorway → Type 0
Follows start turns may_give old old_door None new new_door = Attending start may_give old old_door [] new new_door
Follows start turns may_give old old_door (Some why) new new_door =
    Attends start turns may_give old old_door why new new_door
