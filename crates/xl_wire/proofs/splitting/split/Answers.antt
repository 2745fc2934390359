use Rattle.std.proofs.Common.{sym, ◌∙◌, arith}
use Rattle.xl_wire.proofs.RawLaws.{split_spelled, spelled_split}
use Rattle.xl_wire.proofs.splitting.split.Goals as goal

pub returns-clause-whole : goal.returns-clause-whole
returns-clause-whole c = λ f. (
  λ e. split_spelled c.args.bytes.now f (λ i. omega (arith, c.type_inv.bytes i)) (sym c.part.ensures ∙ e),
  λ s. c.part.ensures ∙ spelled_split c.args.bytes.now f s,
)
