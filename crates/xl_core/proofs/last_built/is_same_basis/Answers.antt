use Rattle.std.proofs.Common.{ap, ◌∙◌}
use Rattle.xl_ledger.specs.declared.header.Header.{Header}
use Rattle.xl_core.specs.declared.last_built.Basis.{Basis}
use Rattle.xl_core.specs.declared.last_built.Terms.{Terms}
use Rattle.xl_core.proofs.last_built.is_same_basis.Goals as goal

pub returns-then-is_same_header : goal.returns-then-is_same_header
returns-then-is_same_header c = λ is.
    let one : Basis = c.args.one.now in
    let other : Basis = c.args.other.now in
    ap (λ (h : Header). let b : Basis = record { parent = h; terms = one.terms } in b) (c.is_same_header.ensures c.if-is_same_header.true)
    ∙ ap (λ (t : Terms). let b : Basis = record { parent = other.parent; terms = t } in b) (c.are_same_terms.ensures is)
