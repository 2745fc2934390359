use Rattle.std.proofs.Common.{◌≡◌, slice_get, Some, sym, ap, ◌∙◌, arith}
use Rattle.xl_ledger.specs.Chains.{chain, seq_at}
use Rattle.xl_ledger.proofs.OnChains.{on_low, on_at}
use Rattle.xl_recount.proofs.preferring.is_on_chain.Goals as goal

pub returns-then-seq_of-seq-clause-value : goal.returns-then-seq_of-seq-clause-value
returns-then-seq_of-seq-clause-value c = on_low c.args.walk.now.ledgers.headers c.seq_of-seq.ensures.ledgers c.args.ledger c.args.of c.requires.of (omega (arith, c.seq_of-seq.ensures.value, c.seq_of.ensures.value, c.if-seq_of-seq.true))

pub returns-clause-value : goal.returns-clause-value
returns-clause-value c =
    let hs = c.args.walk.now.ledgers.headers in
    let at : slice_get (chain hs c.args.of) (seq_at hs c.args.ledger) ≡ Some c.ancestor.result = ap (slice_get (chain hs c.args.of)) (sym c.seq_of-seq.ensures.value) ∙ c.ancestor.ensures.value in
    c.eq.ensures ∙ on_at hs c.seq_of-seq.ensures.ledgers c.args.ledger c.args.of c.ancestor.result c.requires.of at
