-- The links and the door that a hub in memory still has to give, and its script. Source: this project's own, for tests
-- of what opens these.
use Rattle.std.specs.Prelude.{◌≡◌, ℕ, ◌<◌, ◌==◌, Bool, List, [], ◌∷◌, length, map, slice_get, Some, None, option_map, if◌then◌else◌}
use Rattle.std.specs.List.{remove}
use Rattle.std.specs.declared.option.Option.{Option}
use Rattle.xl_base.specs.Counts.{one_more}
use Rattle.xl_links.specs.declared.hub.Spare.{Spare}
use Rattle.xl_links.specs.declared.hub.scripted.MemHub.{MemHub}
use Rattle.xl_links.specs.declared.hub.scripted.Asked.{Asked}
use Rattle.xl_links.specs.declared.door.memory.MemDoor.{MemDoor}
use Rattle.xl_links.specs.Doors.{Doorway}
use Rattle.xl_links.specs.Links.{Wire}
use Rattle.xl_links.specs.Scripts.{is_listed}
use Rattle.xl_links.specs.Tellings.{Telling, telling_of}
use Rattle.xl_links.specs.Ways.{Target, target}

-- a link to a member that says nothing
abbrev pub silent_wire : Wire
silent_wire = record { left = Some []; took = None; openings = None; readings = None; permissions = None; faults = 0 }

-- a door to which nobody comes
abbrev pub silent_doorway : Doorway
silent_doorway = record { left = Some []; took = Some []; faults = 0 }

abbrev pub target_of : Asked → Target
target_of asked = target asked.member asked.way

module _ {L : Type 0} where
  -- the first of the links that is to this member
  abbrev pub first_for : List (Spare L) → ℕ → Option L
  first_for [] member = None
  first_for (spare ∷ spares) member = if spare.member == member then Some spare.link else first_for spares member

  -- all links but that one
  abbrev pub without_first : List (Spare L) → ℕ → List (Spare L)
  without_first [] member = []
  without_first (spare ∷ spares) member =
      if spare.member == member then spares else spare ∷ without_first spares member

  -- the first of them stands at this place
  abbrev pub IsPlaceFor : List (Spare L) → ℕ → Option ℕ → Type 0
  IsPlaceFor spares member None = (first_for spares member ≡ None) × (without_first spares member ≡ spares)
  IsPlaceFor spares member (Some place) =
      (place < length spares)
      × (first_for spares member ≡ option_map (λ spare. spare.link) (slice_get spares place))
      × (without_first spares member ≡ remove spares place)

  -- the links that a hub in memory still has to give
  abbrev pub spares_of : MemHub L → List (Spare L)
  spares_of hub = hub.spares.items

  -- the links that it was asked for, in room that was taken when it was made
  abbrev pub list_of_asked : MemHub L → Telling Asked
  list_of_asked hub = telling_of hub.asked

  abbrev pub targets_of : MemHub L → Option (List Target)
  targets_of hub = option_map (map target_of) (list_of_asked hub).told

  -- the door that it still has to give
  abbrev pub door_of : MemHub L → Option MemDoor
  door_of hub = hub.door

  -- with another one
  abbrev pub with_door : MemHub L → MemDoor → MemHub L
  with_door hub door = record hub { door = Some door }

  -- the addresses at which it was asked for a door, in such room
  abbrev pub list_of_doors : MemHub L → Telling (List ℕ)
  list_of_doors hub = telling_of hub.doors

  abbrev pub doors_of : MemHub L → Option (List (List ℕ))
  doors_of hub = (list_of_doors hub).told

  abbrev pub hub_faults : MemHub L → ℕ
  hub_faults hub = hub.faults

  -- the numbers of the calls that are to fail, from 1
  abbrev pub hub_failing : MemHub L → List ℕ
  hub_failing hub = hub.failing.items

  -- how many calls there were
  abbrev pub hub_calls : MemHub L → ℕ
  hub_calls hub = hub.calls

  -- the next call is to fail
  abbrev pub next_link_fails : MemHub L → Bool
  next_link_fails hub = is_listed (hub_failing hub) (one_more (hub_calls hub))
