-- What is told of a schedule. Source: this project's own formats.
use Rattle.std.specs.Prelude.{ℕ, ◌+◌, List, ◌++◌, is_some}
use Rattle.xl_lines.specs.Rules.{Rules, Step, goes_on, Told}
use Rattle.xl_lines.specs.Soon.{told_soon}
use Rattle.xl_lines.specs.Told.{told_of}
use Rattle.xl_texts.specs.Promises.{Promise, on, always}
use Rattle.xl_sched.specs.declared.event.Event.{Event}
use Rattle.xl_sched.specs.declared.line.Line.{Line}
use Rattle.xl_sched.specs.Answers.{LineAnswer}
use Rattle.xl_world.specs.Parts.{parts_of}
use Rattle.xl_running.specs.Running.{Running, answer_in, at_first, beyond, happens, limits, world_of}
use Rattle.xl_running.specs.Stepping.{after_answer as after_answer_in, after_line as after_line_in}
use Rattle.xl_running.specs.Texts.{bad_line}
use Rattle.xl_replay.specs.Replays.{told_at_end}
use Rattle.xl_held.specs.Changes.{unless}
use Rattle.xl_tell.specs.Nodes.{all_opened}
use Rattle.xl_tell.specs.Parts.{lines_of_parts}

-- before the first event it is told what all nodes hold
abbrev pub opening : Running → List ℕ
opening r = unless (is_some r.world) (all_opened r.reading.names (world_of r))

-- what is told of an event
abbrev pub event_lines : Running → Event → List ℕ
event_lines r e =
    opening r ++ lines_of_parts r.reading.names r.reading.lines (world_of r) (parts_of (world_of r) e)

-- an event is one more step of the world, and is told
abbrev pub after_happening : Running → Event → Step Running
after_happening r e = goes_on (event_lines r e) (happens r e)

-- what a line says that was read
abbrev pub after_line : Running → Line → Step Running
after_line r l = after_line_in (λ r. r) after_happening r l

-- what is written of a line as it was read
abbrev pub after_answer : Running → LineAnswer → Step Running
after_answer r answer = after_answer_in (λ r. r) after_happening r answer

-- a replay's, except for the text of an event
abbrev pub rules : Rules Running
rules = record {
  step = λ r bytes _. after_answer r (answer_in r bytes);
  overrun = λ r overrun. bad_line (r.reading.lines + 1) (beyond overrun);
  closing = told_at_end;
}

-- what is told of a schedule
abbrev pub telling_of : List ℕ → Told
telling_of bytes = told_of limits rules at_first bytes

-- what is told as soon as these bytes have come
abbrev pub telling_soon : List ℕ → Told
telling_soon bytes = told_soon limits rules at_first bytes

abbrev pub telling_promise : Promise
telling_promise = record { told = telling_of; soon = telling_soon; reads = on; shows = always }
