use Rattle.std.proofs.Common.{get_or, ◌∙◌, ap, arith}
use Rattle.xl_disputes.specs.Holdings.{changed, with_weight}
use Rattle.xl_disputes.proofs.Weighing.{weighed_more}
use Rattle.xl_disputes.proofs.shares.Shares.weigh_all.Goals as goal

pub loop-place-preserved : goal.loop-place-preserved
loop-place-preserved c =
    c.weigh.ensures ∙ ap (changed (with_weight (get_or c.args.weights.now c.loop-place.place 0)) c.loop-place.place) c.loop-place.invariant
    ∙ weighed_more c.args.weights.now c.loop-place.place c.args.self.now (omega (arith, c.loop-place-test.true))
