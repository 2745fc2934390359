-- the kept bytes are these
use Rattle.std.proofs.Common.{ℕ, List, Option, ap, ◌∙◌, subst}
use Rattle.std.specs.Prelude.{IfSome}
use Rattle.xl_ledger.specs.Headers.{header_id}
use Rattle.xl_ledger.specs.Reading.{header_in}
use Rattle.xl_told.specs.declared.hashed.NamedHeader.{NamedHeader}
use Rattle.xl_told.specs.Hashed.{IsNamedHeader}
use Rattle.xl_told.proofs.hashed.known_header.Goals as goal

pub returns-in-Some : goal.returns-in-Some
returns-in-Some c =
    let named : IsNamedHeader c.in-Some.named = subst (λ (o : Option NamedHeader). IfSome o IsNamedHeader) c.in-Some.is c.requires in
    named ∙ ap (λ (bytes : List ℕ). header_id (header_in bytes)) (c.are_same_bytes.ensures c.if-are_same_bytes.true)
