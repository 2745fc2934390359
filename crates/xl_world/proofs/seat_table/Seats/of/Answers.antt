use Rattle.std.proofs.Common.{◌∙◌, ap}
use Rattle.xl_world.specs.Plans.{up_from}
use Rattle.xl_world.specs.Stands.{seat_in}
use Rattle.xl_world.proofs.Seating.{table_more}
use Rattle.xl_world.proofs.seat_table.Seats.of.Goals as goal

pub loop-number-init : goal.loop-number-init
unfolding up_from
loop-number-init c = c.new-seats.ensures.items

pub loop-number-preserved : goal.loop-number-preserved
loop-number-preserved c =
    c.in_ok-push.ensures.items
    ∙ table_more (seat_in c.args.places.now) c.loop-number.number c.loop-number.seats.items c.position_of.result c.loop-number.auto.number c.loop-number.invariant
    (c.position_of.ensures ∙ ap (seat_in c.args.places.now) c.member.ensures)
