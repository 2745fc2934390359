-- What a door does: clients come to it and say lines, and each line is answered. Source: this project's own.
use Rattle.std.specs.Prelude.{◌≡◌, ℕ, ◌<◌, ◌≤◌, List, ◌∷◌, length, take, option_map, drop, Some}
use Rattle.std.specs.declared.option.Option.{Option}
use Rattle.xl_base.specs.Faults.{Rose}
use Rattle.xl_links.specs.declared.door.Arrival.{Arrival}
use Rattle.xl_links.specs.declared.door.Arrival.TheVariants as arrival
use Rattle.xl_links.specs.declared.door.memory.MemDoor.{MemDoor}

-- what a door shows: the lines that its clients still have to say, without their newlines, and the bytes of the answers
-- that they took. Each of these stands there if the door tells it. How often a call has failed stands there up to the
-- greatest `u64`
pub record Doorway : Type 0 where
  pub left : Option (List (List ℕ))
  pub took : Option (List ℕ)
  pub faults : ℕ

-- this line, and then those
abbrev pub line_before : List ℕ → Option (List (List ℕ)) → Option (List (List ℕ))
line_before line left = option_map (λ (lines : List (List ℕ)). line ∷ lines) left

-- the next line stands at the front of the room, or has more bytes than that; else none was given
abbrev pub Came : Option (List (List ℕ)) → Arrival → List ℕ → Option (List (List ℕ)) → Type 0
Came old (arrival.Line n) room new = (n ≤ length room) × (old ≡ line_before (take n room) new)
Came old arrival.Long room new = (line : List ℕ) × (length room < length line) × (old ≡ line_before line new)
Came old arrival.Idle room new = new ≡ old
Came old arrival.Failed room new = new ≡ old

-- a call gives the next line, if one ended, and takes no answer
pub record Comes (old : Doorway) (answer : Arrival) (room : List ℕ) (new : Doorway) : Type 0 where
  pub came : Came old.left answer room new.left
  pub took : new.took ≡ old.took
  pub later : old.faults ≤ new.faults
  pub failed : answer ≡ arrival.Failed → Rose old.faults new.faults

-- a door in memory, and what it took
abbrev pub doorway_of : MemDoor → Doorway
doorway_of door =
    record { left = Some (drop door.given door.lines.items); took = Some door.took.items; faults = door.faults }
