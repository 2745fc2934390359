-- what the line comes to is told of the journals
use Rattle.std.proofs.Common.{◌∙◌, [], ap, sym}
use Rattle.xl_lines.specs.Rules.{Step, goes_on}
use Rattle.xl_shown.specs.Courses.{came_given}
use Rattle.xl_blame.specs.Blaming.{Blaming, journal_step, with_line}
use Rattle.xl_blame.specs.States.{state_of}
use Rattle.xl_blame.proofs.machine.Blamer.follow.Goals as goal

pub returns-in-Passed : goal.returns-in-Passed
returns-in-Passed c =
    let b : Blaming = state_of c.args.self.now in
    ap (λ xs. (let s : Step Blaming = goes_on xs (with_line b c.come.new.course) in s)) c.requires.empty
    ∙ ap (journal_step b) (sym (ap (λ k. came_given k c.come.new.course) c.in-Passed.is) ∙ c.in_ok-came.ensures.step)

pub returns-in_ok-gather-in-Showed : goal.returns-in_ok-gather-in-Showed
returns-in_ok-gather-in-Showed c =
    let b : Blaming = state_of c.args.self.now in
    ap (λ xs. (let s : Step Blaming = goes_on xs (state_of c.gather.new.self) in s)) c.requires.empty
    ∙ (ap (λ (x : Blaming). (let s : Step Blaming = goes_on [] x in s)) c.in_ok-gather-in-Showed.ensures
    ∙ ap (journal_step b) (sym (ap (λ k. came_given k c.come.new.course) c.in-Showed.is) ∙ c.in_ok-came.ensures.step))
