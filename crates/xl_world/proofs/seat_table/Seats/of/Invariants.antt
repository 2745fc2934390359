use Rattle.std.proofs.Common.{◌≡◌, ◌-◌}
use Rattle.std.specs.Prelude.{map}
use Rattle.xl_world.specs.Plans.{up_from}
use Rattle.xl_world.specs.Stands.{seat_in}
use Rattle.xl_world.proofs.seat_table.Seats.of.Given as goal

-- the seats of the numbers so far
abbrev pub invariant-loop-number : goal.invariant-loop-number
invariant-loop-number l = l.seats.items ≡ map (seat_in l.places) (up_from 1 (l.number - 1))
