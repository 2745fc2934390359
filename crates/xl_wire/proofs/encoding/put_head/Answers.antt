use Rattle.std.proofs.Common.{arith}
use Rattle.xl_wire.proofs.PutLaws.{puts_then}
use Rattle.xl_wire.proofs.encoding.put_head.Goals as goal

pub returns : goal.returns
returns c = puts_then 0 4 _ _ _ _ _ c.put.ensures c.put_u16.ensures.puts (omega arith)
