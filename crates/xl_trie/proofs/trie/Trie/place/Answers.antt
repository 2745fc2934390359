use Rattle.std.proofs.Common.{sym, ap, ◌∙◌}
use Rattle.xl_trie.proofs.Common.{way, Span}
use Rattle.xl_trie.proofs.Listing.{some_is}
use Rattle.xl_trie.proofs.Trees.{empty_on}
use Rattle.xl_trie.proofs.trie.Trie.place.Goals as goal

pub seek-requires-clause-on : goal.seek-requires-clause-on
seek-requires-clause-on c =
    let hs = c.args.registry.now.headers in
    let root = c.requires.trie.1 in
    let own = some_is c.span_at.result root.0 (sym c.span_at.ensures ∙ root.1) in
    empty_on hs c.span_at.result.ledger c.args.ledger (ap (way hs) (ap (λ (s : Span). s.ledger) own ∙ root.2) ∙ c.requires.trie.2)
