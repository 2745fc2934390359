-- Where nodes stand. Source: what the code of this crate keeps.
use Rattle.std.specs.Prelude.{◌≡◌, ℕ, ◌==◌, List, Some, map, position}
use Rattle.std.specs.declared.option.Option.{Option}
use Rattle.xl_world.specs.declared.act.Seat.{Seat}
use Rattle.xl_world.specs.declared.place.Place.{Place}
use Rattle.xl_world.specs.Plans.{all_numbers}

-- where the node of a number stands, if there is one
abbrev pub seat_in : List Place → ℕ → Option ℕ
seat_in places i = position (λ p. p.core.node.me == i) places

-- the node of a number stands at this place
abbrev pub IsSeat : List Place → Seat → Type 0
IsSeat places s = seat_in places s.number ≡ Some s.place

-- so do those of all numbers that a member may have
abbrev pub AreSeats : List (Option ℕ) → List Place → Type 0
AreSeats seats places = seats ≡ map (seat_in places) all_numbers
