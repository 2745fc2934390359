use Rattle.std.proofs.Common.{[], ◌∷◌, ap, arith, length, length-append, subst, sym}
use Rattle.xl_world.specs.Indexes.{IsIndex}
use Rattle.xl_world.specs.Sending.{body_said, said_to}
use Rattle.xl_world.proofs.Indexing.{index_more}
use Rattle.xl_world.proofs.traffic.Traffic.push_said.Goals as goal

pub invariant_of-self-2 : goal.invariant_of-self-2
invariant_of-self-2 c = record {
  index = subst (IsIndex c.self.inside.index) (sym c.in_ok-push_said.ensures.sent) (index_more c.self.inside.index c.self.inside.frames (said_to c.args.from c.args.to (body_said c.args.said.now) ∷ []) c.self.invariant.index);
  mark = omega (arith, c.self.invariant.mark, ap length c.in_ok-push_said.ensures.sent, length-append c.self.inside.frames (said_to c.args.from c.args.to (body_said c.args.said.now) ∷ []));
}
