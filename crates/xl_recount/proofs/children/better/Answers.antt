use Rattle.std.proofs.Common.{Option, ℕ, ◌<◌, length, subst, sym, ◌∙◌}
use Rattle.std.specs.Prelude.{IfSome}
use Rattle.xl_recount.proofs.Ranks.{better_out, better_new, better_old}
use Rattle.xl_recount.proofs.children.better.Goals as goal

pub returns-then-is_child-clause-leads : goal.returns-then-is_child-clause-leads
returns-then-is_child-clause-leads c = λ some leads. better_out c.args.walk.now.ledgers.headers c.requires.ledgers c.args.children.now some c.args.out.now c.args.best c.args.child c.in-Some.new c.in-Some.is (sym c.is_child.ensures ∙ c.if-is_child.true) leads

pub returns-then-ranks_above-clause-leads : goal.returns-then-ranks_above-clause-leads
returns-then-ranks_above-clause-leads c = λ some leads. better_new c.args.walk.now.ledgers.headers c.requires.ledgers c.args.children.now some c.args.out.now c.args.best c.args.child c.in-Some.new c.in-Some-best.old c.in-Some.is c.in-Some-best.is (sym c.is_child.ensures ∙ c.if-is_child.false) (sym c.ranks_above.ensures ∙ c.if-ranks_above.true) leads

pub returns-else-ranks_above-clause-leads : goal.returns-else-ranks_above-clause-leads
returns-else-ranks_above-clause-leads c =
    let Known : Option ℕ → Type 0 = λ o. IfSome o (λ b. b < length c.args.walk.now.ledgers.headers) in
    λ some leads. better_old c.args.walk.now.ledgers.headers c.requires.ledgers c.args.children.now some c.args.out.now c.args.best c.args.child c.in-Some.new c.in-Some-best.old c.in-Some.is c.in-Some-best.is (subst Known c.in-Some.is c.requires.child) (subst Known c.in-Some-best.is c.requires.best) (sym c.ranks_above.ensures ∙ c.if-ranks_above.false) leads
