use Rattle.std.proofs.Common.{◌+◌, arith, ◌++◌, length-append}
use Rattle.byteorder.specs.Endian.{big_bytes}
use Rattle.xl_wire.specs.declared.lengths.TheConstants.{HEAD}
use Rattle.xl_wire.proofs.PutLaws.{puts_then}
use Rattle.xl_wire.proofs.encoding.put_proposal.Goals as goal

pub returns-clause-puts : goal.returns-clause-puts
returns-clause-puts c =
    let p = c.args.proposal.now in
    let a = puts_then HEAD (HEAD + 32) _ _ _ _ _ c.put_field.ensures.puts c.put_field-2.ensures.puts (omega (arith, c.put_field.ensures.long)) in
    let b = puts_then HEAD (HEAD + 64) _ _ _ _ _ a c.put_u32.ensures.puts (omega (arith, c.put_field.ensures.long, c.put_field-2.ensures.long, length-append p.prev.0 p.set.0)) in
    let d = puts_then HEAD (HEAD + 68) _ _ _ _ _ b c.put_u32-2.ensures.puts (omega (arith, c.put_field.ensures.long, c.put_field-2.ensures.long, length-append p.prev.0 p.set.0, length-append (p.prev.0 ++ p.set.0) (big_bytes 4 p.pseq))) in
    puts_then HEAD (HEAD + 72) _ _ _ _ _ d c.put_u32-3.ensures.puts (omega (arith, c.put_field.ensures.long, c.put_field-2.ensures.long, length-append p.prev.0 p.set.0, length-append (p.prev.0 ++ p.set.0) (big_bytes 4 p.pseq), length-append (p.prev.0 ++ p.set.0 ++ big_bytes 4 p.pseq) (big_bytes 4 p.close)))
