use Rattle.std.proofs.Common.{ap, ◌∙◌, arith}
use Rattle.xl_ledger.specs.Headers.{spelling}
use Rattle.xl_ledger.proofs.HeaderLaws.{header_spelled}
use Rattle.xl_ledger.proofs.header.read.Goals as goal

pub returns-clause-spelled : goal.returns-clause-spelled
returns-clause-spelled c = ap spelling c.fields_of.ensures ∙ header_spelled c.args.bytes.now (λ i. omega (arith, c.type_inv.bytes i)) c.requires
