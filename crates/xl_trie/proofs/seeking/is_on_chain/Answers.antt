use Rattle.std.proofs.Common.{◌≡◌, slice_get, Some, subst, ◌∙◌, arith}
use Rattle.xl_trie.proofs.Common.{Walked, chain}
use Rattle.xl_ledger.proofs.OnChains.{on_low, on_at}
use Rattle.xl_trie.proofs.seeking.is_on_chain.Goals as goal

pub returns-then-seq_of-seq : goal.returns-then-seq_of-seq
returns-then-seq_of-seq c = on_low c.args.registry.now.headers c.seq_of-seq.ensures.ledgers c.args.ledger c.args.of c.requires.of (omega (arith, c.seq_of-seq.ensures.value, c.seq_of.ensures.value, c.if-seq_of-seq.true))

pub returns : goal.returns
returns c =
    let hs = c.args.registry.now.headers in
    let at = subst (λ (w : Walked). slice_get (chain w.ledgers.headers c.args.of) c.seq_of-seq.result ≡ Some c.ancestor.result) c.walk.ensures c.ancestor.ensures.value in
    c.eq.ensures ∙ on_at hs c.seq_of-seq.ensures.ledgers c.args.ledger c.args.of c.ancestor.result c.requires.of (subst (λ k. slice_get (chain hs c.args.of) k ≡ Some c.ancestor.result) c.seq_of-seq.ensures.value at)
