use Rattle.std.proofs.Common.{◌≡◌, ◌+◌, List, Option, ℕ, take, ◌++◌, ◌∷◌, [], sym, ap, subst, ◌∙◌}
use Rattle.std.proofs.lemmas.Grind.{take_at_read}
use Rattle.xl_recount.specs.Children.{Leads}
use Rattle.xl_recount.proofs.children.best_child.Goals as goal

pub loop-child-preserved : goal.loop-child-preserved
loop-child-preserved c =
    let children = c.args.children.now in
    let i = c.loop-child.child-index in
    let more : take i children ++ c.child-item.result ∷ [] ≡ take (i + 1) children = ap (λ (o : Option ℕ). take i children ++ o ∷ []) c.child-item.is ∙ sym (take_at_read children i c.child-item.result c.loop-child-test.true).1 in
    record {
      leads = subst (λ (some : List (Option ℕ)). Leads c.args.walk.now.ledgers.headers children some c.args.out c.better-best.result) more (c.better-best.ensures.leads (take i children) c.loop-child.invariant.leads);
      known = c.better-best.ensures.known;
    }
