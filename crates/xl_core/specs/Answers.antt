-- What an event at a node is answered. Source: this profile.
use Rattle.std.specs.Prelude.{ℕ, Bool, List, []}
use Rattle.std.specs.Prelude.{Some, None}
use Rattle.std.specs.declared.option.Option.{Option}
use Rattle.xl_core.specs.declared.timer_answer.TimerAnswer.{TimerAnswer}
use Rattle.xl_core.specs.declared.refusal.Refusal.{Refusal}
use Rattle.xl_core.specs.declared.report.Report.{Report}
use Rattle.xl_core.specs.declared.taken.Taken.{Taken}

pub data Answer : Type 0 where
  Refused : (why : Refusal) → Answer
  -- this was taken of a frame
  Took : (taken : Taken) → Answer
  -- this came of a timer
  Beats : (told : TimerAnswer) → Answer
  -- it was done, and there is nothing to say
  Done : Answer
  -- these frames go to a member
  Gave : (to : ℕ) (frames : List (List ℕ)) → Answer
  -- these reports are handed out
  Handed : (reports : List Report) → Answer
  -- whether it was told to stop
  Told : (stopped : Bool) → Answer

-- why it was refused, if it was
abbrev pub refusal_in : Answer → Option Refusal
refusal_in (Refused why) = Some why
refusal_in other = None

-- the reports that it hands out
abbrev pub handed_in : Answer → List Report
handed_in (Handed reports) = reports
handed_in other = []

-- the frames that it gives
abbrev pub given_in : Answer → List (List ℕ)
given_in (Gave to frames) = frames
given_in other = []
