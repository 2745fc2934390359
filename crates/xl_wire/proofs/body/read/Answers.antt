use Rattle.std.proofs.Common.{◌∙◌, sym, arith}
use Rattle.xl_wire.proofs.BodyLaws.{read_spelled, spelled_read}
use Rattle.xl_wire.proofs.body.read.Goals as goal

pub returns-clause-whole : goal.returns-clause-whole
returns-clause-whole c = λ body. (
  λ e. read_spelled c.args.kind c.args.bytes.now body (λ i. omega (arith, c.type_inv.bytes i)) c.requires (sym c.read_kind.ensures ∙ e),
  λ s. c.read_kind.ensures ∙ spelled_read c.args.kind c.args.bytes.now body s,
)
