-- Nothing is looked for, so the lines are read to their end.
use Rattle.std.proofs.Common.{◌≡◌, ◌==◌, ℕ, Bool, List, [], ◌∷◌, true, refl, Option, Some, None}
use Rattle.std.proofs.lemmas.Bool.{cond_both}
use Rattle.xl_lines.specs.declared.machine.Verdict.TheVariants.{Good, Refused}
use Rattle.xl_lines.specs.Rules.{Step, goes_on, refuses as stops, finds, closes}
use Rattle.xl_lines.specs.Ends.{FindsNothing, FindsAtEnd}
use Rattle.xl_sched.specs.declared.line.Line.{Line}
use Rattle.xl_sched.specs.declared.line.Line.TheVariants as line
use Rattle.xl_sched.specs.declared.refusal.SchedRefusal.TheVariants.{Header}
use Rattle.xl_sched.specs.Answers.{LineAnswer, passes, gives, refuses}
use Rattle.xl_spelling.specs.Spellings.{list_line, spelling}
use Rattle.xl_world.specs.declared.outcome.Outcome.{Outcome}
use Rattle.xl_world.specs.declared.outcome.Outcome.TheVariants as outcome
use Rattle.xl_world.specs.Schedule.{outcomes}
use Rattle.xl_running.specs.Running.{answer_in, world_of}
use Rattle.xl_running.specs.Texts.{bad_line}
use Rattle.xl_negative.specs.Keeping.{Keeping}
use Rattle.xl_negative.specs.Seats.{seat_at, with_leaving_out}
use Rattle.xl_negative.specs.Writing.{Writing, Change, step_adding, and_then, after_answer, after_line, after_outcome, after_outcomes, change_at, copied, with_line_counted, told_at_end, goes_over, after_event, ledgers_at, rules, as_line}

added_finds : {H : Type 0} (s : Writing H) (text bytes : List ℕ) (a : LineAnswer) → FindsNothing (step_adding s text bytes a)
added_finds s text bytes (passes reading) = tt
added_finds s text bytes (gives l reading) = tt
added_finds s text bytes (refuses why) = tt

then_finds : {H : Type 0} (further : Writing H → List ℕ → Step (Writing H)) → ((s : Writing H) (text : List ℕ) → FindsNothing (further s text)) → (step : Step (Writing H)) → FindsNothing step →
    FindsNothing (and_then further step)
unfolding and_then
then_finds further nothing (goes_on text s) before = nothing s text
then_finds further nothing (stops text) before = tt
then_finds further nothing (finds text) before = before

closes_at_end : {H : Type 0} (s : Writing H) → (told_at_end s).closed ≡ true
closes_at_end s =
    cond_both (s.lines == 0) (closes (bad_line 1 (Header [])) Refused) (closes [] Good) (λ told. told.closed ≡ true) (λ _. refl) (λ _. refl)

module _ {H : Type 0} (keeping : Keeping H) where
  over_finds : (s : Writing H) (text : List ℕ) (i : ℕ) (change : Option Change) → FindsNothing (goes_over keeping s text i change)
  over_finds s text i None = tt
  over_finds s text i (Some change) =
      let next : Writing H = record s { seats = with_leaving_out keeping s.seats i change.negative } in
      let bytes : List ℕ = spelling (list_line s.running.reading i change.list) in
      added_finds next text bytes (answer_in next.running bytes)

  outcome_finds : (s : Writing H) (text : List ℕ) (o : Outcome) → FindsNothing (after_outcome keeping s text o)
  outcome_finds s text (outcome.Full i seq id) =
      over_finds s text i (change_at keeping (seat_at keeping s.seats i) i (ledgers_at s.running.world i) seq id)
  outcome_finds s text other = tt

  outcomes_find : (os : List Outcome) (s : Writing H) (text : List ℕ) → FindsNothing (after_outcomes keeping s text os)
  outcomes_find [] s text = tt
  outcomes_find (o ∷ os) s text =
      then_finds (λ next further. after_outcomes keeping next further os) (λ next further. outcomes_find os next further) (after_outcome keeping s text o)
      (outcome_finds s text o)

  line_finds : (s : Writing H) (text : List ℕ) (l : Line) → FindsNothing (after_line keeping s text l)
  line_finds s text (line.Event e) = outcomes_find (outcomes (world_of s.running) e) (after_event keeping s e) text
  line_finds s text other = tt

  answer_finds : (s : Writing H) (bytes : List ℕ) (ended : Bool) (a : LineAnswer) → FindsNothing (after_answer keeping s bytes ended a)
  answer_finds s bytes ended (passes reading) = tt
  answer_finds s bytes ended (gives l reading) = line_finds (with_line_counted s reading) (as_line (copied bytes ended)) l
  answer_finds s bytes ended (refuses why) = tt

  pub finds_at_end : FindsAtEnd (rules keeping)
  finds_at_end = record { step = λ s bytes ended. answer_finds s bytes ended (answer_in s.running bytes); closing = closes_at_end }
