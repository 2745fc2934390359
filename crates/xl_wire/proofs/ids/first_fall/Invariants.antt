use Rattle.std.proofs.Common.{◌≡◌, ◌*◌, ◌/◌, ◌-◌, length, drop}
use Rattle.xl_wire.specs.Sets.{first_fall, ids_in}
use Rattle.xl_wire.proofs.SetLaws.{fall_at}
use Rattle.xl_wire.proofs.ids.first_fall.Given as goal

abbrev pub invariant-loop-place : goal.invariant-loop-place
invariant-loop-place l =
    let count = length l.ids / 32 in
    fall_at l.place (ids_in (count - (l.place - 1)) (drop (32 * (l.place - 1)) l.ids)) ≡ first_fall (ids_in count l.ids)
