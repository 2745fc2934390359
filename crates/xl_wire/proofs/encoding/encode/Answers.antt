use Rattle.std.proofs.Common.{ap, ◌+◌, ℕ}
use Rattle.xl_wire.specs.declared.lengths.TheConstants.{AROUND}
use Rattle.xl_wire.proofs.PutLaws.{puts_frame}
use Rattle.xl_wire.proofs.encoding.encode.Goals as goal

pub returns : goal.returns
returns c =
    let whole = puts_frame c.args.frame.now c.version_of.result c.kind_of.result c.len-length.result _ _ _ _ _ _ c.version_of.ensures c.kind_of.ensures c.len-length.ensures.value
    (record { body = c.put_body.ensures.fits; from = c.put_u32.ensures.below; to = c.put_u32-2.ensures.below; tag = c.put_field.ensures.long })
    c.put_head.ensures c.put_u32.ensures.puts c.put_u32-2.ensures.puts c.put_body.ensures.puts c.put_field.ensures.puts in
    record { long = ap (λ (n : ℕ). AROUND + n) c.len-length.ensures.value; spelled = whole.0; rest = whole.1 }
