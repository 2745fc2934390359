use Rattle.std.proofs.Common.{subst, sym}
use Rattle.xl_core.specs.Marks.{StayMarks}
use Rattle.xl_core.proofs.Marking.{pushed_marks}
use Rattle.xl_core.proofs.the_core.marks.push.Goals as goal

pub returns-clause-marks : goal.returns-clause-marks
returns-clause-marks c = subst (StayMarks c.args.marks.now 18446744073709551615 c.args.waiting.now) (sym c.push.ensures.pushed) (pushed_marks c.args.marks.now c.args.waiting.now c.args.item)
