use Rattle.std.proofs.Common.{vec_capacity, arith}
use Rattle.xl_disputes.proofs.Pooling.{first_pooled}
use Rattle.xl_disputes.proofs.rows.Rows.open.Goals as goal

pub invariant_of-result : goal.invariant_of-result
invariant_of-result c =
    first_pooled c.in_ok-with_slots.field-0 c.in_ok-with_capacity.field-0.items (vec_capacity c.in_ok-with_capacity.field-0) c.in_ok-with_slots.ensures.empty c.in_ok-with_capacity.ensures.items
    (omega (arith, c.in_ok-with_capacity.ensures.exact))
