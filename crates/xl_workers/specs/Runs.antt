-- A whole run of a node. Source: this project's own.
use Rattle.std.specs.Prelude.{◌≡◌, ℕ, Option, List, [], ◌∷◌, ◌++◌, length, map}
use mathlib.Core.List.{IsPrefix}
use Rattle.xl_base.specs.Faults.{Rose}
use Rattle.xl_base.specs.declared.ids.TxId.{TxId}
use Rattle.xl_base.specs.declared.status.Status.{Status}
use Rattle.xl_base.specs.declared.status.Status.TheVariants as status
use Rattle.xl_turns.specs.Places.{all_below}
use Rattle.xl_links.specs.Ways.{Target}
use Rattle.xl_store.specs.declared.entry.Entry.{Entry}
use Rattle.xl_heartbeat.specs.declared.pulse.Pulse.{Pulse}
use Rattle.xl_heartbeat.specs.Outputs.{Output}
use Rattle.xl_heartbeat.specs.Statuses.{status_of_run}
use Rattle.xl_workers.specs.declared.ends.RunEnd.{RunEnd}
use Rattle.xl_workers.specs.declared.ends.RunEnd.TheVariants as end
use Rattle.xl_workers.specs.Linking.{HubSeen, AsksAll, AsksNoDoor, AsksUpTo, AsksUpToDoor, member_in}
use Rattle.xl_workers.specs.Sharing.{Setting, SubmitPart, SharedOut}

-- the status that a run ends with
abbrev pub status_of_end : RunEnd → Status
status_of_end (end.Ran beats last) = status_of_run beats last
status_of_end (end.LinkFault member) = status.NetFault
status_of_end end.DoorFault = status.NetFault
status_of_end end.OutOfMemory = status.OutOfMemory
status_of_end end.TooFewThreads = status.OutOfMemory
status_of_end (end.StoreFull n) = status.StoreFull

-- what a run is to do, and what the hub and the output show before it and after it
pub record Doing : Type 0 where
  pub ids : List TxId
  pub targets : List Target
  pub door : Option (List ℕ)
  pub pulse : Pulse
  pub old_hub : HubSeen
  pub new_hub : HubSeen
  pub old_output : Output
  pub new_output : Output

abbrev pub doing_of : List TxId → List Target → Option (List ℕ) → Pulse → HubSeen → HubSeen → Output → Output → Doing
doing_of ids targets door pulse old_hub new_hub old_output new_output = record {
  ids = ids;
  targets = targets;
  door = door;
  pulse = pulse;
  old_hub = old_hub;
  new_hub = new_hub;
  old_output = old_output;
  new_output = new_output;
}

-- the submits have all places of the history, and nothing was written
pub record NoMore (d : Doing) (history : List Entry) (submits : List ℕ) : Type 0 where
  pub all : submits ≡ all_below (length history)
  pub silent : d.new_output ≡ d.old_output

-- some of the ids have no submit
abbrev pub IsLess : List TxId → List TxId → Type 0
IsLess done ids = (next : TxId) × (rest : List TxId) × (ids ≡ done ++ next ∷ rest)

-- What the hub was asked for: all links and the door if the workers ran, and nothing if there were too few threads or a
-- submit had no turn. If memory ran out it was the first of the links. If the hub failed, what it was asked for last is
-- what it couldn't make
abbrev pub IsAsked : Doing → RunEnd → Type 0
IsAsked d (end.Ran beats last) = AsksAll d.old_hub d.targets d.door d.new_hub
IsAsked d (end.LinkFault member) = AsksUpTo d.old_hub d.targets member d.new_hub
IsAsked d end.DoorFault = AsksUpToDoor d.old_hub d.targets d.door d.new_hub
IsAsked d end.OutOfMemory = AsksNoDoor d.old_hub d.targets d.new_hub
IsAsked d end.TooFewThreads = d.new_hub.asked ≡ d.old_hub.asked
IsAsked d (end.StoreFull n) = d.new_hub.asked ≡ d.old_hub.asked

-- the hub failed after all submits, which have all places
abbrev pub EndsUnmade : Doing → List Entry → List TxId → List ℕ → Type 0
EndsUnmade d history done submits =
    (done ≡ d.ids)
    × NoMore d history submits
    × Rose d.old_hub.faults d.new_hub.faults

-- What each end says. If the workers ran, all ids were submitted and the other places are shared out. Else the
-- submits have all places: the hub failed after all of them, memory ran out, or all turns of the store were drawn. If
-- there were too few threads nothing happened
abbrev pub EndsBy : Setting → Doing → List Entry → List TxId → List ℕ → RunEnd → Type 0
EndsBy s d history done submits (end.Ran beats last) =
    (done ≡ d.ids)
    × SharedOut s d.pulse d.door (map member_in d.targets) history submits beats last d.old_output d.new_output
EndsBy s d history done submits (end.LinkFault member) = EndsUnmade d history done submits
EndsBy s d history done submits end.DoorFault = EndsUnmade d history done submits
EndsBy s d history done submits end.OutOfMemory = IsPrefix done d.ids × NoMore d history submits
EndsBy s d history done submits end.TooFewThreads = (history ≡ []) × NoMore d history submits
EndsBy s d history done submits (end.StoreFull n) =
    IsLess done d.ids
    × NoMore d history submits
    × (n ≡ s.turns)
    × (length history ≡ s.turns)

-- The submits are of the first ids, in order and each once, the hub was asked for links and a door as the plan names
-- them, and the end says how many of both there are and what else there is
pub record NodeRun (s : Setting) (d : Doing) (end : RunEnd) (history : List Entry) : Type 0 where
  pub done : List TxId
  pub submits : List ℕ
  pub submitting : SubmitPart s history done submits
  pub by : EndsBy s d history done submits end
  pub asked : IsAsked d end
