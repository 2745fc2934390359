use Rattle.std.proofs.Common.{length, ap, ◌∙◌}
use Rattle.xl_negative.proofs.Seating.{all_seats}
use Rattle.xl_negative.proofs.seats.Seats.open.Goals as goal

pub invariant_of-result : goal.invariant_of-result
invariant_of-result c = ap length c.in_ok-seats.ensures ∙ all_seats
