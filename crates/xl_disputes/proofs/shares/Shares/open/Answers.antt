use Rattle.xl_disputes.proofs.Changing.{first_shared}
use Rattle.xl_disputes.proofs.shares.Shares.open.Goals as goal

pub invariant_of-result : goal.invariant_of-result
invariant_of-result c = first_shared c.in_ok-no_places.field-0.items c.in_ok-open.field-0 c.in_ok-no_places.ensures c.in_ok-open.ensures
