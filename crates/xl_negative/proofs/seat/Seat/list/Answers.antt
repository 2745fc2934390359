use Rattle.xl_negative.proofs.Seating.{nobody_out}
use Rattle.xl_negative.proofs.seat.Seat.list.Goals as goal

pub invariant_of-self : goal.invariant_of-self
invariant_of-self c = nobody_out _ _ c.clear.ensures.items
