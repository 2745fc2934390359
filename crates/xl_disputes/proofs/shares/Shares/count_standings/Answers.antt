-- each position adds one at the place at which it stands, so no weight exceeds the positions passed
use Rattle.std.proofs.Common.{◌+◌, ◌≤◌, List, ℕ, None, get_or, replicate, length, ap, sym, subst, ◌∙◌, arith}
use Rattle.std.specs.Prelude.{All, Option}
use Rattle.std.proofs.lemmas.List.Sums.{fold_more}
use Rattle.std.proofs.lemmas.List.Elements.{All-replicate}
use Rattle.xl_base.specs.declared.ids.SetId.{SetId}
use Rattle.xl_disputes.specs.Standings.{stand, with_one}
use Rattle.xl_disputes.specs.declared.shares.TheConstants.{PLACES}
use Rattle.xl_disputes.proofs.Weighing.{one_more}
use Rattle.xl_disputes.proofs.shares.Shares.count_standings.Goals as goal

pub loop-position-init : goal.loop-position-init
loop-position-init c = record {
  counted = c.requires.none;
  places = ap length c.requires.none;
  few = subst (All (λ weight. weight ≤ 0)) (sym c.requires.none) (All-replicate (λ weight. weight ≤ 0) PLACES 0 (omega arith));
}

pub loop-position-preserved : goal.loop-position-preserved
loop-position-preserved c = record {
  counted =
      c.add_one.ensures ∙ ap (λ n. with_one n c.loop-position.weights) c.stand.ensures.value
      ∙ ap (with_one (stand c.args.self.now (get_or c.args.positions.now c.loop-position.position-index None))) c.loop-position.invariant.counted
      ∙ sym (fold_more (λ (weights : List ℕ) (position : Option SetId). with_one (stand c.args.self.now position) weights) (replicate PLACES 0) c.args.positions.now c.loop-position.position-index None
      (omega (arith, c.loop-position-test.true)));
  places = c.add_one.array_long;
  few =
      subst (λ weights. All (λ weight. weight ≤ c.loop-position.position-index + 1) weights) (sym c.add_one.ensures)
      (one_more c.loop-position.weights c.stand.result c.loop-position.position-index c.loop-position.invariant.few);
}
