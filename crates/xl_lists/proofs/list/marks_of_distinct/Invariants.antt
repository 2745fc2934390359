use Rattle.std.proofs.Common.{◌≡◌, [], take, drop}
use Rattle.xl_lists.specs.Lists.{repeated_after}
use Rattle.xl_lists.specs.Marks.{AreMarked}
use Rattle.xl_lists.proofs.list.marks_of_distinct.Given as goal

abbrev pub invariant-loop-member : goal.invariant-loop-member
invariant-loop-member l = record {
  marked : AreMarked l.marks.bits (take l.member-index l.members);
  rest : repeated_after (take l.member-index l.members) (drop l.member-index l.members) ≡ repeated_after [] l.members;
}
