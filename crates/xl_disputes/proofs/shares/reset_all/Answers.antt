use Rattle.std.proofs.Common.{set, ap, get_or, ◌∙◌, arith}
use Rattle.std.proofs.lemmas.List.{get_or_default}
use Rattle.std.proofs.lemmas.List.Edits.{map_over_more}
use Rattle.xl_disputes.specs.Holdings.{Holding, no_holding}
use Rattle.xl_disputes.proofs.shares.reset_all.Goals as goal

pub loop-place-preserved : goal.loop-place-preserved
loop-place-preserved c =
    let i = c.loop-place.place-index in
    let h : Holding = get_or c.loop-place.places i c.place-item.result in
    ap (set c.loop-place.places i) c.reset.ensures
    ∙ map_over_more (λ (x : Holding). no_holding x.bit) c.args.places.now c.loop-place.places i h c.loop-place-test.true c.loop-place.invariant
    (get_or_default c.loop-place.places i c.place-item.result h (omega (arith, c.loop-place-test.true, c.loop-place.auto.places)))
