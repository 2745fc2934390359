use Rattle.std.proofs.Common.{◌≡◌, ◌+◌, Some, slice_get, sym, ap, subst, ◌∙◌, take}
use Rattle.xl_trie.proofs.Common.{Walked, chain, way}
use Rattle.xl_trie.proofs.Ways.{length_way, way_at}
use Rattle.xl_trie.proofs.seeking.begin_of.Goals as goal

pub returns-clause-begin : goal.returns-clause-begin
returns-clause-begin c =
    let hs = c.args.registry.now.headers in
    way_at hs c.seq_of-seq.ensures.ledgers c.args.ledger (c.seq_of-seq.result + 1) c.ancestor.result c.requires.known (subst (λ (w : Walked). slice_get (chain w.ledgers.headers c.args.ledger) (c.seq_of-seq.result + 1) ≡ Some c.ancestor.result) c.walk.ensures c.ancestor.ensures.value)
    ∙ ap (λ k. take (k + 1) (way hs c.args.ledger)) (c.seq_of-seq.ensures.value ∙ sym (length_way hs c.args.over))
