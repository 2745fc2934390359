use Rattle.std.proofs.Common.{ap, sym, subst}
use Rattle.xl_lists.specs.Lists.{IsValid}
use Rattle.xl_tags.specs.Rings.{Ring, schedule_ring}
use Rattle.test_in_memory.proofs.member.Member.open.Goals as goal

pub open-requires-clause-keyed : goal.open-requires-clause-keyed
unfolding schedule_ring
open-requires-clause-keyed c = record {
  own = ap (λ (r : Ring). r.me) c.of_schedule.ensures.ring;
  listed = c.of_schedule.ensures.listed c.copy.result (subst IsValid (sym c.copy.ensures) c.quorum.ensures.valid);
}
