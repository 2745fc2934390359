-- if no mark is set, nobody was greeted
use Rattle.std.proofs.Common.{subst}
use Rattle.xl_core.specs.Marks.{AreMarks}
use Rattle.xl_core.proofs.Marking.{none_left}
use Rattle.xl_core.proofs.the_core.marks.forget.Goals as goal

pub returns-then-marks-eq0 : goal.returns-then-marks-eq0
returns-then-marks-eq0 c =
    none_left c.args.greetings.now c.requires.0 c.told-greetings (subst (λ marks. AreMarks marks c.args.greetings.now c.requires.0) c.if-marks-eq0.true c.requires.1)
