use Rattle.xl_wire.proofs.PutLaws.{PutsIds}
use Rattle.xl_wire.proofs.encoding.put_set.Given as goal

abbrev pub invariant-loop-i : goal.invariant-loop-i
invariant-loop-i l = PutsIds l.ids l.i l.fn.room l.room
