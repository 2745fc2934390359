use Rattle.std.proofs.Common.{◌<◌, bit_xor, length, get_or, sym, arith}
use Rattle.std.proofs.lemmas.Grind.{get_or_default_zero}
use Rattle.std.proofs.lemmas.List.Edits.{map_over_more}
use Rattle.xl_tags.proofs.macs.padded.Goals as goal

pub loop-byte-preserved : goal.loop-byte-preserved
loop-byte-preserved c =
    let i = c.loop-byte.byte-index in
    let x = get_or c.loop-byte.byte-items i 0 in
    let here : i < length c.loop-byte.byte-items = omega arith in
    map_over_more (λ byte. bit_xor byte c.args.pad) c.args.block.now c.loop-byte.byte-items i x (omega arith) c.loop-byte.invariant (sym (get_or_default_zero c.loop-byte.byte-items i x here))
