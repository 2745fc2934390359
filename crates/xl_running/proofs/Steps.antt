-- A line that was read ends no text, and a refused one is told aloud, if that is so of an event.
use Rattle.std.proofs.Common.{◌+◌}
use Rattle.xl_lines.specs.Causes.{RefusesAloud}
use Rattle.xl_lines.specs.Ends.{FindsNothing}
use Rattle.xl_lines.specs.Rules.{Step}
use Rattle.xl_sched.specs.declared.event.Event.{Event}
use Rattle.xl_sched.specs.declared.line.Line.{Line}
use Rattle.xl_sched.specs.declared.line.Line.TheVariants as line
use Rattle.xl_sched.specs.Answers.{LineAnswer, passes, gives, refuses}
use Rattle.xl_running.specs.Running.{Running, knows}
use Rattle.xl_running.specs.Stepping.{after_answer, after_line}
use Rattle.xl_running.proofs.Aloud.{bad_some}

module _ {S : Type 0} (state : Running → S) (tells : Running → Event → Step S) where
  module _ (finds : (r : Running) (e : Event) → FindsNothing (tells r e)) where
    line_finds : (r : Running) (l : Line) → FindsNothing (after_line state tells r l)
    line_finds r (line.Event e) = finds r e
    line_finds r other = tt

    pub answer_finds : (r : Running) (a : LineAnswer) → FindsNothing (after_answer state tells r a)
    answer_finds r (passes reading) = tt
    answer_finds r (gives l reading) = line_finds (knows r reading) l
    answer_finds r (refuses why) = tt

  module _ (aloud : (r : Running) (e : Event) → RefusesAloud (tells r e)) where
    line_aloud : (r : Running) (l : Line) → RefusesAloud (after_line state tells r l)
    line_aloud r (line.Event e) = aloud r e
    line_aloud r other = tt

    pub answer_aloud : (r : Running) (a : LineAnswer) → RefusesAloud (after_answer state tells r a)
    answer_aloud r (passes reading) = tt
    answer_aloud r (gives l reading) = line_aloud (knows r reading) l
    answer_aloud r (refuses why) = bad_some (r.reading.lines + 1) why
