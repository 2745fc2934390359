use Rattle.std.proofs.Common.{arith, subst, sym}
use Rattle.std.specs.Prelude.{not}
use Rattle.xl_base.specs.Sets.{IsSet}
use Rattle.xl_disputes.specs.Disputes.{has}
use Rattle.xl_rounds.proofs.RisingLaws.{IsSet-filter}
use Rattle.xl_rounds.proofs.pending.Pending.take_out.Goals as goal

pub invariant_of-self : goal.invariant_of-self
invariant_of-self c = record {
  set = subst IsSet (sym c.drop_accepted.ensures.left) (IsSet-filter (λ tx. not (has c.args.accepted.now tx)) c.self.inside.ids.items c.self.invariant.set);
  room = omega (arith, c.drop_accepted.ensures.room, c.self.invariant.room);
}
