use Rattle.std.proofs.Common.{◌∙◌, sym, arith}
use Rattle.xl_wire.proofs.FrameLaws.{decoded_spelled, spelled_decoded}
use Rattle.xl_wire.proofs.decoding.decode.Goals as goal

pub returns-clause-whole : goal.returns-clause-whole
returns-clause-whole c = λ f n. (
  λ e. decoded_spelled c.args.bytes.now f n (λ i. omega (arith, c.type_inv.bytes i)) (sym c.read.ensures ∙ e),
  λ s. c.read.ensures ∙ spelled_decoded c.args.bytes.now f n s,
)
