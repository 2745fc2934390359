use Rattle.std.proofs.Common.{None, sym, ap, ◌∙◌}
use Rattle.xl_trie.proofs.Common.{eqb-false, Span, spans}
use Rattle.xl_trie.proofs.Listing.{some_is}
use Rattle.xl_trie.proofs.Placing.{tip_none}
use Rattle.xl_trie.proofs.trie.TrieBranch.tip.Goals as goal

pub returns-else-eq : goal.returns-else-eq
returns-else-eq c =
    let P = c.place-place.ensures.place in
    tip_none c.args.registry.now.headers c.place-place.ensures.ledgers (spans c.args.self.now.nodes) c.args.self.now.votes.items None c.requires.goes.0.spans c.args.ledger c.requires.known c.place-place.result P
    (λ h. eqb-false c.span_at-span.result.ledger c.args.ledger (sym c.eq.ensures ∙ c.if-eq.false) (ap (λ (n : Span). n.ledger) (some_is c.span_at-span.result P.span (sym c.span_at-span.ensures ∙ P.there)) ∙ h))
