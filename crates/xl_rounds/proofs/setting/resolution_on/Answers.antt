use Rattle.std.proofs.Common.{◌≡◌, arith, ap, ◌∙◌}
use Rattle.xl_ledger.specs.declared.header.Header.{Header}
use Rattle.xl_ledger.specs.Chains.{seq_at}
use Rattle.xl_ledger.specs.Walks.{Walked}
use Rattle.xl_rounds.proofs.SequenceLaws.{seq_within}
use Rattle.xl_rounds.proofs.setting.resolution_on.Goals as goal

pub overflow_add-header : goal.overflow_add-header
overflow_add-header c =
    let ledgers = c.args.registry.now.headers in
    let is : c.header-header.result.now.seq ≡ seq_at ledgers c.args.previous =
    ap (λ (h : Header). h.seq) c.header-header.ensures.value ∙ ap (λ (w : Walked). seq_at w.ledgers.headers c.args.previous) c.walk.ensures in
    omega (arith, is, seq_within ledgers c.len.ensures.ledgers c.args.previous c.requires, c.requires, c.len.ensures.limit, c.len.ensures.most)
