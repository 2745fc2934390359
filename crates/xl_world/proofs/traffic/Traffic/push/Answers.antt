use Rattle.std.proofs.Common.{[], ◌∷◌, ap, arith, length, length-append, subst, sym}
use Rattle.xl_world.specs.Indexes.{IsIndex}
use Rattle.xl_world.specs.Sending.{sent_as}
use Rattle.xl_world.proofs.Indexing.{index_more}
use Rattle.xl_world.proofs.traffic.Traffic.push.Goals as goal

pub invariant_of-self-2 : goal.invariant_of-self-2
invariant_of-self-2 c = record {
  index = subst (IsIndex c.self.inside.index) (sym c.in_ok-push.ensures.sent) (index_more c.self.inside.index c.self.inside.frames (sent_as c.args.from c.args.to c.args.kept.now ∷ []) c.self.invariant.index);
  mark = omega (arith, c.self.invariant.mark, ap length c.in_ok-push.ensures.sent, length-append c.self.inside.frames (sent_as c.args.from c.args.to c.args.kept.now ∷ []));
}
