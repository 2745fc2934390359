use Rattle.std.proofs.Common.{◌∙◌, ap, sym, arith}
use Rattle.xl_disputes.specs.Holdings.{Holding, changed, with_weight}
use Rattle.xl_disputes.proofs.Weighing.{weight_stays}
use Rattle.xl_disputes.proofs.shares.Shares.weigh.Goals as goal

pub returns-else-weight : goal.returns-else-weight
returns-else-weight c =
    sym c.self.view_is
    ∙ weight_stays c.args.place c.args.weight c.self.inside.places.items c.index-held.result.now (omega (arith, c.requires.within, c.self.invariant.count))
    (ap (λ (h : Holding). h.weight) (sym c.index-held.ensures) ∙ sym c.weight.ensures ∙ c.if-weight.false)
    ∙ ap (changed (with_weight c.args.weight) c.args.place) c.self.view_is
