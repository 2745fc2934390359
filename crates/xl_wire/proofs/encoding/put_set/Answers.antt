use Rattle.std.proofs.Common.{arith}
use Rattle.xl_wire.proofs.PutLaws.{puts_id, puts_set}
use Rattle.xl_wire.proofs.encoding.put_set.Goals as goal

pub loop-i-preserved : goal.loop-i-preserved
loop-i-preserved c = puts_id c.args.ids.now c.loop-i.i c.get.result _ _ _ c.get.ensures c.put_field.ensures.long (omega arith) c.loop-i.invariant c.put_field.ensures.puts

pub returns : goal.returns
returns c =
    let done = puts_set c.args.ids.now c.loop-i.i _ _ (omega arith) c.len.ensures.set c.loop-i.invariant in
    record { puts = done.0; fits = done.1 }
