-- a line that begins no journal is one of the journal that is read
use Rattle.std.proofs.Common.{◌≡◌, ◌∙◌, sym, subst}
use Rattle.std.specs.Prelude.{IfOk}
use Rattle.std.specs.String.{string_bytes}
use Rattle.std.proofs.lemmas.Bool.{cond-false}
use Rattle.xl_lines.specs.Rules.{Step, step_given}
use Rattle.xl_shown.specs.Courses.{course_step, end_of}
use Rattle.xl_blame.specs.Blaming.{Blaming, begins_next, ended_step, journal_step}
use Rattle.xl_blame.specs.States.{state_of}
use Rattle.xl_blame.proofs.machine.Blamer.read.Goals as goal

pub returns : goal.returns
returns c =
    let b : Blaming = state_of c.args.self.now in
    subst (λ (s : Step Blaming). IfOk c.follow.result (λ next. step_given next (string_bytes c.follow.new.text) (state_of c.follow.new.self) ≡ s))
    (sym (cond-false (begins_next b c.args.line.now) (ended_step b (end_of b.course)) (journal_step b (course_step b.course c.args.line.now))
    (sym c.begins_next.ensures ∙ c.if-begins_next.false)))
    c.follow.ensures
