use Rattle.xl_trie.proofs.Listing.{true_false, some_is}
use Rattle.xl_trie.proofs.Ranks.{best_first, best_next}
use Rattle.std.proofs.Common.{sym, ap, ◌∙◌}
use Rattle.xl_trie.proofs.Common.{leads, spans}
use Rattle.xl_trie.proofs.kids.better.Goals as goal

pub returns-in_default-clause-best : goal.returns-in_default-clause-best
returns-in_default-clause-best c = λ a n rest kid so. best_first c.args.walk.now.ledgers.headers (spans c.args.nodes.now) c.args.out.now a rest c.args.best c.args.name n c.in_default.is (λ e. true_false c.is_named.result (c.is_named.ensures.1 e) c.if-is_named.false) kid so

pub returns-then-leads-clause-best : goal.returns-then-leads-clause-best
returns-then-leads-clause-best c = λ a n rest kid so.
    let own = some_is c.span_at.result n (sym c.span_at.ensures ∙ kid.0) in
    let lead = sym (ap (λ x. leads c.args.walk.now.ledgers.headers x c.span_at-2.result) own) ∙ sym c.leads.ensures ∙ c.if-leads.true in
    best_next c.args.walk.now.ledgers.headers (spans c.args.nodes.now) c.args.out.now a rest c.args.best c.in-Some.old c.args.name n c.span_at-2.result c.in-Some.is c.span_at-2.ensures (λ e. true_false c.is_named.result (c.is_named.ensures.1 e) c.if-is_named.false) kid lead so
