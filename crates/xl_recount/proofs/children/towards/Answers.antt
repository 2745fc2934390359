-- a ledger on a chain stands there at its own sequence, and what follows it there is its child
use Rattle.std.proofs.Common.{◌≡◌, List, suc, ◌+◌, slice_get, Some, sym, ap, ◌∙◌, arith}
use Rattle.xl_ledger.specs.declared.header.Header.{Header}
use Rattle.xl_ledger.specs.Chains.{chain, seq_at}
use Rattle.xl_ledger.proofs.Walking.{same_if}
use Rattle.xl_recount.proofs.Towards.{towards_low, towards_other, towards_is}
use Rattle.xl_recount.proofs.Ranks.{other_if}
use Rattle.xl_recount.proofs.children.towards.Goals as goal

pub returns-then-seq_of-seq-clause-value : goal.returns-then-seq_of-seq-clause-value
returns-then-seq_of-seq-clause-value c = sym (towards_low c.args.walk.now.ledgers.headers c.seq_of-seq.ensures.ledgers c.args.from c.args.to c.requires.to (omega (arith, c.seq_of-seq.ensures.value, c.seq_of.ensures.value, c.if-seq_of-seq.true)))

pub returns-then-ne-clause-value : goal.returns-then-ne-clause-value
returns-then-ne-clause-value c =
    let hs = c.args.walk.now.ledgers.headers in
    let first : slice_get (chain hs c.args.to) (seq_at hs c.args.from) ≡ Some c.ancestor.result = ap (slice_get (chain hs c.args.to)) (sym c.seq_of-seq.ensures.value) ∙ c.ancestor.ensures.value in
    sym (towards_other hs c.seq_of-seq.ensures.ledgers c.args.from c.args.to c.ancestor.result c.requires.to first (other_if c.ancestor.result c.args.from c.ne.result c.ne.ensures c.if-ne.true))

pub returns-clause-value : goal.returns-clause-value
returns-clause-value c =
    let hs = c.args.walk.now.ledgers.headers in
    let same = same_if c.ancestor.result c.args.from c.ne.result c.ne.ensures c.if-ne.false in
    let first : slice_get (chain hs c.args.to) (seq_at hs c.args.from) ≡ Some c.args.from = ap (slice_get (chain hs c.args.to)) (sym c.seq_of-seq.ensures.value) ∙ c.ancestor.ensures.value ∙ ap Some same in
    let stays = ap (λ r. r.headers) c.ancestor.ensures.goes_on.stays in
    let next : suc (seq_at hs c.args.from) ≡ c.seq_of-seq.result + 1 = omega (arith, c.seq_of-seq.ensures.value) in
    let second : slice_get (chain hs c.args.to) (suc (seq_at hs c.args.from)) ≡ Some c.ancestor-2.result = ap (slice_get (chain hs c.args.to)) next ∙ ap (λ (x : List Header). slice_get (chain x c.args.to) (c.seq_of-seq.result + 1)) (sym stays) ∙ c.ancestor-2.ensures.value in
    sym (towards_is hs c.seq_of-seq.ensures.ledgers c.args.from c.args.to c.ancestor-2.result c.requires.to first second)
