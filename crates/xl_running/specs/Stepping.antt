-- What a line comes to that was read. Source: this project's own formats.
use Rattle.std.specs.Prelude.{◌+◌, []}
use Rattle.xl_lines.specs.Rules.{Step, goes_on, refuses as refuses_line}
use Rattle.xl_sched.specs.declared.event.Event.{Event}
use Rattle.xl_sched.specs.declared.line.Line.{Line}
use Rattle.xl_sched.specs.declared.line.Line.TheVariants as line
use Rattle.xl_sched.specs.Answers.{LineAnswer, passes, gives, refuses}
use Rattle.xl_running.specs.Running.{Running, declares, knows}
use Rattle.xl_running.specs.Texts.{bad_line}

-- what a line says that was read: an event is told so, and of any other line nothing is; with the state of a command
-- whose schedule runs so
abbrev pub after_line : {S : Type 0} → (Running → S) → (Running → Event → Step S) → Running → Line → Step S
after_line state tells r (line.Event e) = tells r e
after_line state tells r other = goes_on [] (state (declares r other))

-- what is written of a line as it was read
abbrev pub after_answer : {S : Type 0} → (Running → S) → (Running → Event → Step S) → Running → LineAnswer → Step S
after_answer state tells r (passes reading) = goes_on [] (state (knows r reading))
after_answer state tells r (gives line reading) = after_line state tells (knows r reading) line
after_answer state tells r (refuses refusal) = refuses_line (bad_line (r.reading.lines + 1) refusal)
