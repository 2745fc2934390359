use Rattle.std.proofs.Common.{take}
use Rattle.xl_world.specs.Marked.{AreMarked}
use Rattle.xl_world.proofs.members.marks_of.Given as goal

-- those of the numbers so far
abbrev pub invariant-loop-number : goal.invariant-loop-number
invariant-loop-number l = AreMarked l.marks (take l.number-index l.numbers)
