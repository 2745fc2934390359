use Rattle.std.proofs.Common.{subst}
use Rattle.xl_world.specs.Marked.{AreMarked}
use Rattle.xl_world.proofs.members.Members.new.Goals as goal

pub invariant_of-result : goal.invariant_of-result
invariant_of-result c = subst (AreMarked c.marks_of-marks.result) c.deref.ensures.value c.marks_of-marks.ensures
