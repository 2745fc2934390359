use Rattle.std.proofs.Common.{◌∙◌, ap, map, arith}
use Rattle.xl_pool.specs.Entries.{seen}
use Rattle.xl_pool.proofs.Untouched.{all_of-new, kept_new, seen-untouched}
use Rattle.xl_pool.proofs.pool.Pool.with_slots.Goals as goal

pub invariant_of-result : goal.invariant_of-result
invariant_of-result g c = rw c.in_ok-with_capacity.ensures.items (kept_new c.args.n _ (omega (arith, c.in_ok-with_capacity.ensures.capacity)) c.ranges.n.fits)

pub returns : goal.returns
returns g c = record { empty = rw c.in_ok-with_capacity.ensures.items (ap (λ es. map seen es) (all_of-new c.args.n) ∙ seen-untouched _ 0 c.args.n) }
