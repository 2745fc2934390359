use Rattle.xl_negative.proofs.Seating.{nobody_out}
use Rattle.xl_negative.proofs.seat.Seat.empty.Goals as goal

pub invariant_of-result : goal.invariant_of-result
invariant_of-result c = nobody_out _ _ c.new.ensures.items
