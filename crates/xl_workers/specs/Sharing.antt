-- How the places of a running node's history are shared out. Source: this project's own.
use Rattle.std.specs.Prelude.{◌≡◌, ℕ, Bool, List, [], ◌∷◌, ◌++◌, length, IfSome, Some, None}
use Rattle.std.specs.declared.option.Option.{Option}
use Rattle.std.specs.List.{flat_map}
use Rattle.xl_base.specs.declared.ids.TxId.{TxId}
use Rattle.xl_base.specs.declared.status.Status.{Status}
use Rattle.xl_base.specs.declared.status.Status.TheVariants as status
use Rattle.xl_turns.specs.declared.view.Knowledge.{Knowledge}
use Rattle.xl_turns.specs.Places.{merge, all_below}
use Rattle.xl_links.specs.Doors.{Doorway}
use Rattle.xl_links.specs.Links.{Wire}
use Rattle.xl_links.specs.Requests.{Offers}
use Rattle.xl_core.specs.declared.report.Report.{Report}
use Rattle.xl_core.specs.Core.{Core}
use Rattle.xl_store.specs.declared.entry.Entry.{Entry}
use Rattle.xl_store.specs.Calls.{Call, Rise, StandAt}
use Rattle.xl_peers.specs.declared.ends.Served.{Served}
use Rattle.xl_peers.specs.declared.ends.Served.TheVariants as served
use Rattle.xl_peers.specs.Serving.{Serves, calls_in}
use Rattle.xl_door.specs.declared.ends.Attended.{Attended}
use Rattle.xl_door.specs.declared.ends.Attended.TheVariants as attended
use Rattle.xl_door.specs.Attending.{Attends, last_calls}
use Rattle.xl_door.specs.Rounds as rounds
use Rattle.xl_heartbeat.specs.declared.pulse.Pulse.{Pulse}
use Rattle.xl_heartbeat.specs.declared.ends.Ending.{Ending}
use Rattle.xl_heartbeat.specs.declared.ends.BeatEnd.{BeatEnd}
use Rattle.xl_heartbeat.specs.Outputs.{Output, Adds, AddsLess}
use Rattle.xl_heartbeat.specs.Beats.{Phase, IsBeating, IsReason, IsStop, IsFull, stop_calls, taking_calls, lines_of}
use Rattle.xl_heartbeat.specs.Statuses.{status_of_run}
use Rattle.xl_workers.specs.Pairing.{Paired}
use Rattle.xl_workers.specs.Submits.{IsSubmit}

-- what a run stands on: the core that its store was opened with and how many turns that has, the moments that its clock
-- may give, and what its hub tells of the next link to each member and of the next door
pub record Setting : Type 0 where
  pub start : Core
  pub turns : ℕ
  pub may_give : ℕ → Bool
  pub gives : Offers

abbrev pub setting : Core → ℕ → (ℕ → Bool) → Offers → Setting
setting start turns may_give gives =
    record { start = start; turns = turns; may_give = may_give; gives = gives }

-- at these places of the history, which rise, stand these calls
pub record Stands (start : Core) (history : List Entry) (places : List ℕ) (calls : List Call) : Type 0 where
  pub at : StandAt start history places calls
  pub rise : Rise 0 places (length history)

-- the submits of these ids, in order
pub record SubmitPart (s : Setting) (history : List Entry) (ids : List TxId) (places : List ℕ) : Type 0 where
  pub calls : List Call
  pub each : Paired (IsSubmit s.may_give) ids calls
  pub stand : Stands s.start history places calls

-- beats, and then the stop; if the store had no turn for one, the history has as many entries as that has turns
pub record BeatPart (s : Setting) (pulse : Pulse) (history : List Entry) (end : BeatEnd) (calls : List Call)
    (places : List ℕ) : Type 0 where
  pub phase : Phase
  pub run : IsBeating s.may_give pulse calls phase
  pub stand : Stands s.start history places (calls ++ stop_calls end.stop)
  pub reason : IsReason s.turns calls phase (length history) end.run
  pub stopped : IsStop s.turns (length history) end.stop

-- all turns of the store were drawn, if that is why the serving ended
abbrev pub IsFilled : ℕ → List Entry → Served → Type 0
IsFilled turns history served.Stopped = Unit {0}
IsFilled turns history (served.StoreFull n) = (n ≡ turns) × (length history ≡ turns)

-- one worker's serving of a member, by a pass of its own, over a link that showed what the hub told of it
pub record ServePart (s : Setting) (history : List Entry) (member : ℕ) (places : List ℕ) : Type 0 where
  pub old : Knowledge Entry
  pub new : Knowledge Entry
  pub old_link : Wire
  pub new_link : Wire
  pub why : Served
  pub told : IfSome (s.gives.links member) (λ wire. old_link ≡ wire)
  pub serves : Serves s.start s.turns s.may_give member old old_link why new new_link
  pub stand : Stands s.start history places (flat_map calls_in serves.serving.deeds)
  pub filled : IsFilled s.turns history why

-- all turns of the store were drawn, if that is why the attending ended
abbrev pub IsFilledBehind : ℕ → List Entry → Attended → Type 0
IsFilledBehind turns history attended.Stopped = Unit {0}
IsFilledBehind turns history (attended.StoreFull n) = (n ≡ turns) × (length history ≡ turns)

-- the porter's attending of a door, by a pass of its own, which showed at first what the hub told of it
pub record DoorPart (s : Setting) (history : List Entry) (places : List ℕ) : Type 0 where
  pub old : Knowledge Entry
  pub new : Knowledge Entry
  pub old_door : Doorway
  pub new_door : Doorway
  pub why : Attended
  pub told : IfSome s.gives.door (λ doorway. old_door ≡ doorway)
  pub attends : Attends s.start s.turns s.may_give old old_door why new new_door
  pub stand : Stands s.start history places (flat_map rounds.calls_in attends.attending.rounds ++ last_calls why)
  pub filled : IsFilledBehind s.turns history why

-- without a door there is no call of a porter
abbrev pub DoorIf : Setting → Option (List ℕ) → List Entry → List ℕ → Type 0
DoorIf s None history places = places ≡ []
DoorIf s (Some address) history places = DoorPart s history places

-- the last reports, which handed these out
pub record LastPart (s : Setting) (history : List Entry) (end : Ending) (handed : List Report) (places : List ℕ)
    : Type 0 where
  pub stand : Stands s.start history places (taking_calls end handed)
  pub full : IsFull s.turns (length history) end

-- several rising lists of places as one
abbrev pub merge_all : List ℕ → List (List ℕ) → List ℕ
merge_all ps [] = ps
merge_all ps (qs ∷ parts) = merge_all (merge ps qs) parts

-- all of the text was written, unless a write's fault is the status: then a front of it, not all
abbrev pub IsOutput : Status → List ℕ → Output → Output → Type 0
IsOutput status.WriteFault text old new = AddsLess text old new
IsOutput other text old new = Adds text old new

-- Each place of the history is one of the submits, of the heartbeat, of the porter, of the one worker of a member, or of
-- the last reports; and the output is the lines of all reports that were handed out, in order
pub record SharedOut (s : Setting) (pulse : Pulse) (door : Option (List ℕ)) (members : List ℕ)
    (history : List Entry) (submits : List ℕ)
    (beats : BeatEnd) (last : Ending) (old new : Output) : Type 0 where
  pub beat : List ℕ
  pub gate : List ℕ
  pub parts : List (List ℕ)
  pub end : List ℕ
  pub calls : List Call
  pub handed : List Report
  pub all : merge_all submits (beat ∷ gate ∷ parts) ++ end ≡ all_below (length history)
  pub beating : BeatPart s pulse history beats calls beat
  pub attending : DoorIf s door history gate
  pub serving : Paired (ServePart s history) members parts
  pub ending : LastPart s history last handed end
  pub written : IsOutput (status_of_run beats last) (lines_of (calls ++ taking_calls last handed)) old new
