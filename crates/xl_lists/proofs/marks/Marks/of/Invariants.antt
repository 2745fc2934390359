use Rattle.std.proofs.Common.{take}
use Rattle.xl_lists.specs.Marks.{AreMarked}
use Rattle.xl_lists.proofs.marks.Marks.of.Given as goal

abbrev pub invariant-loop-member : goal.invariant-loop-member
invariant-loop-member l = AreMarked l.marks.bits (take l.member-index l.members)
