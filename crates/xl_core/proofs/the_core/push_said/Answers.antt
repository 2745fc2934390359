use Rattle.xl_core.specs.Marks.{AreMarks}
use Rattle.xl_core.proofs.the_core.push_said.Goals.{then-said, else-said}
use Rattle.xl_core.proofs.the_core.push_said.Goals as goal

pub returns-after-said-clause-marks : goal.returns-after-said-clause-marks
returns-after-said-clause-marks c = λ greetings was.
    c.push-in-Some.ensures.marks greetings
    (elim c.if-said.branch as (λ _. AreMarks c.if-said.marks greetings c.if-said.waiting) [
      | then-said w ↦ rw (w.marks-is, w.waiting-is) (w.push.ensures.marks greetings was)
      | else-said w ↦ rw (w.marks-is, w.waiting-is) was
    ])
