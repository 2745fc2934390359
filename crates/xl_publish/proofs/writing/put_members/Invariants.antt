use Rattle.std.proofs.Common.{take}
use Rattle.xl_base.specs.Putting.{Puts}
use Rattle.xl_publish.specs.Rolls.{member_bytes}
use Rattle.xl_publish.specs.declared.reading.TheConstants.{HEAD}
use Rattle.xl_publish.proofs.writing.put_members.Given as goal

abbrev pub invariant-loop-place : goal.invariant-loop-place
invariant-loop-place l = Puts HEAD (member_bytes (take l.place l.members)) l.fn.room l.room
