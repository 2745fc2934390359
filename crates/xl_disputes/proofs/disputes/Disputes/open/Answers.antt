use Rattle.std.proofs.Common.{vec_capacity, arith}
use Rattle.xl_disputes.proofs.Unused.{nothing_ready}
use Rattle.xl_disputes.proofs.disputes.Disputes.open.Goals as goal

pub invariant_of-result : goal.invariant_of-result
invariant_of-result c =
    nothing_ready c.in_ok-open.field-0 (vec_capacity c.in_ok-with_capacity.field-0) c.in_ok-open.ensures (omega (arith, c.in_ok-with_capacity.ensures.capacity))
