use Rattle.std.proofs.Common.{subst, take_all}
use Rattle.xl_world.specs.Marked.{AreMarked}
use Rattle.xl_world.proofs.Idling.{marked_more, marked_none}
use Rattle.xl_world.proofs.members.marks_of.Goals as goal

pub loop-number-init : goal.loop-number-init
loop-number-init c = marked_none

pub loop-number-preserved : goal.loop-number-preserved
loop-number-preserved c =
    marked_more c.loop-number.marks c.marked-marks.result c.args.numbers.now c.loop-number.number-index c.number-item.result c.loop-number-test.true c.number-item.is c.loop-number.invariant c.marked-marks.ensures.own c.marked-marks.ensures.others

pub returns : goal.returns
returns c = subst (AreMarked c.loop-number.marks) (take_all c.loop-number.number-index c.args.numbers.now c.loop-number-test.false) c.loop-number.invariant
