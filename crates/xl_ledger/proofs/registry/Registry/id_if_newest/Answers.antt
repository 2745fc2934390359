use Rattle.std.proofs.Common.{◌<◌, length, sym, ap, ◌∙◌, arith}
use Rattle.std.specs.Prelude.{IsSome, is_some}
use Rattle.std.proofs.lemmas.Bool.Decides.{nat_tests}
use Rattle.xl_ledger.specs.Headers.{header_id}
use Rattle.xl_ledger.specs.Chains.{place_of}
use Rattle.xl_ledger.proofs.ChainLaws.{id_of_added}
use Rattle.xl_ledger.proofs.registry.Registry.id_if_newest.Goals as goal

pub returns-then-is_some : goal.returns-then-is_some
returns-then-is_some c =
    let above : 0 < c.at-newest.result = grind (arith, nat_tests, c.ne.ensures, c.if-ne.true, c.root.ensures) in
    let within : c.at-newest.result < length c.args.self.now.headers = omega (arith, c.at-newest.ensures, c.len.ensures.value, c.len.ensures.ledgers.some) in
    let known : IsSome (place_of c.args.self.now.headers c.id_at-id.result) = ap is_some (sym c.find.ensures) ∙ (sym c.is_some.ensures ∙ c.if-is_some.true) in
    let same = c.is_same.ensures c.if-is_same.true in
    (c.id_at-id.ensures ∙ (id_of_added c.args.self.now.headers c.at-newest.result above within ∙ ap header_id (sym c.header.ensures ∙ same)), known)
