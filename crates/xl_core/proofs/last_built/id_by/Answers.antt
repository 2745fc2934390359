use Rattle.std.proofs.Common.{ap, ◌∙◌}
use Rattle.xl_ledger.specs.declared.header.Header.{Header}
use Rattle.xl_ledger.specs.Headers.{header_id}
use Rattle.xl_core.proofs.last_built.id_by.Goals as goal

pub returns-then-is_same_header : goal.returns-then-is_same_header
returns-then-is_same_header c =
    c.requires.id ∙ ap (λ (h : Header). header_id h) (c.is_same_header.ensures c.if-is_same_header.true)
