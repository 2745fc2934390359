-- The heartbeat of a running node, and how reports are taken. Source: this project's own.
use Rattle.std.specs.Prelude.{◌≡◌, ℕ, ◌+◌, ◌==◌, ◌&&◌, ◌≤◌, nat_le, Bool, true, not, List, [], ◌∷◌, ◌++◌, if◌then◌else◌}
use Rattle.std.specs.List.{flat_map}
use Rattle.std.specs.declared.option.Option.{Option}
use Rattle.xl_lists.specs.Lists.{TrustedList}
use Rattle.xl_turns.specs.declared.view.Knowledge.{Knowledge}
use Rattle.xl_core.specs.declared.timer_answer.TimerAnswer.{TimerAnswer}
use Rattle.xl_core.specs.declared.report.Report.{Report}
use Rattle.xl_core.specs.declared.event.CoreEvent.TheVariants.{Timer, Reports, Stop}
use Rattle.xl_core.specs.Answers as answer
use Rattle.xl_core.specs.Core.{Core}
use Rattle.xl_store.specs.declared.entry.Entry.{Entry}
use Rattle.xl_store.specs.Calls.{Call, Made}
use Rattle.xl_status.specs.declared.look.Look.{Look}
use Rattle.xl_heartbeat.specs.declared.timing.Timing.{Timing}
use Rattle.xl_heartbeat.specs.declared.pulse.Pulse.{Pulse}
use Rattle.xl_heartbeat.specs.declared.standing.Standing.{Standing}
use Rattle.xl_heartbeat.specs.declared.ends.Ending.{Ending}
use Rattle.xl_heartbeat.specs.declared.ends.Ending.TheVariants as ending
use Rattle.xl_heartbeat.specs.declared.ends.Stopping.{Stopping}
use Rattle.xl_heartbeat.specs.declared.ends.Stopping.TheVariants as stopping
use Rattle.xl_heartbeat.specs.declared.ends.BeatEnd.{BeatEnd}
use Rattle.xl_heartbeat.specs.Lines.{report_lines}
use Rattle.xl_heartbeat.specs.Looks.{LooksAt, standing_of, with_set}
use Rattle.xl_heartbeat.specs.Outputs.{Output, IsWritten}
use Rattle.xl_heartbeat.specs.Relisting.{made_at, Relists}
use Rattle.xl_heartbeat.specs.Rooms.{room}

abbrev pub timer : ℕ → TimerAnswer → Call
timer now beat = record { event = Timer now; answer = answer.Beats beat }

-- reports are taken
abbrev pub reports : List Report → Call
reports handed = record { event = Reports room; answer = answer.Handed handed }

abbrev pub stop : Call
stop = record { event = Stop; answer = answer.Done }

-- the lines of all reports that these calls handed out
abbrev pub lines_of : List Call → List ℕ
lines_of calls = report_lines (flat_map (λ call. answer.handed_in call.answer) calls)

-- at this moment the time of the run is over; a run of 0 has no end
abbrev pub is_over : Timing → ℕ → Bool
is_over timing now = not (timing.run == 0) && nat_le (timing.opened + timing.run) now

-- what is to be done next: a beat, this being what it goes on from; the timer of a moment; reports after it; or
-- nothing, since the time is over
pub data Phase : Type 0 where
  Beats : (standing : Standing) → Phase
  Times : (now : ℕ) (standing : Standing) → Phase
  Takes : (now : ℕ) (standing : Standing) → Phase
  Over : Phase

abbrev pub after_beat : Timing → ℕ → Standing → Phase
after_beat timing now standing = if is_over timing now then Over else Beats standing

-- a call is to be made next
abbrev pub IsDue : Phase → Type 0
IsDue Over = ⊥
IsDue other = Unit {0}

-- Beats, as far as they came. Each, at a moment that the clock may give, looks at the text of rolls if that is due, and
-- asks for the list that the publishers then make if it is another than the one last set. Then it has the timer, and
-- then takes reports. The first beat at whose moment the time is over is the last
pub data IsBeating (may_give : ℕ → Bool) (pulse : Pulse) : List Call → Phase → Type 0 where
  begins : IsBeating may_give pulse [] (Beats (standing_of pulse))
  relists : (calls asked : List Call) (now : ℕ) (before looked : Standing) (look : Option Look) (next : TrustedList)
      → IsBeating may_give pulse calls (Beats before)
      → may_give now ≡ true
      → LooksAt pulse.rolls now before look looked
      → Relists (made_at looked.publishing now) now looked.set asked next
      → IsBeating may_give pulse (calls ++ asked) (Times now (with_set looked next))
  beats : (calls : List Call) (now : ℕ) (standing : Standing) (beat : TimerAnswer)
      → IsBeating may_give pulse calls (Times now standing)
      → IsBeating may_give pulse (calls ++ timer now beat ∷ []) (Takes now standing)
  takes : (calls : List Call) (now : ℕ) (standing : Standing) (handed : List Report)
      → IsBeating may_give pulse calls (Takes now standing)
      → IsBeating may_give pulse (calls ++ reports handed ∷ []) (after_beat pulse.timing now standing)

-- it was the last call
abbrev pub IsLast : List Call → Call → Type 0
IsLast calls call = (earlier : List Call) × (calls ≡ earlier ++ call ∷ [])

-- why no further beat came: the time is over; a write of the reports just taken failed; or the next call had no turn,
-- since memory ran out, or since all turns of the store are drawn
abbrev pub IsReason : ℕ → List Call → Phase → ℕ → Ending → Type 0
IsReason turns calls phase drawn ending.Done = phase ≡ Over
IsReason turns calls phase drawn ending.WriteFault = (handed : List Report) × IsLast calls (reports handed)
IsReason turns calls phase drawn ending.OutOfMemory = IsDue phase
IsReason turns calls phase drawn (ending.StoreFull n) = IsDue phase × (n ≡ turns) × (drawn ≡ turns)

-- the one stop, unless all turns are drawn
abbrev pub stop_calls : Stopping → List Call
stop_calls stopping.Done = stop ∷ []
stop_calls (stopping.StoreFull n) = []

abbrev pub IsStop : ℕ → ℕ → Stopping → Type 0
IsStop turns drawn stopping.Done = Unit {0}
IsStop turns drawn (stopping.StoreFull n) = (n ≡ turns) × (drawn ≡ turns)

-- A whole heartbeat of a pass, at a store that was opened with this core and has so many turns: its calls stand in the
-- history at the places that the pass gained, and to the output were added the lines of the reports that they handed
-- out, in order, and if a write's fault ended it a front of them
pub record Heartbeat
    (start : Core) (turns : ℕ) (may_give : ℕ → Bool) (pulse : Pulse)
    (old : Knowledge Entry) (old_output : Output) (end : BeatEnd) (new : Knowledge Entry) (new_output : Output)
    : Type 0 where
  pub calls : List Call
  pub phase : Phase
  pub run : IsBeating may_give pulse calls phase
  pub made : Made start old new (calls ++ stop_calls end.stop)
  pub drawn : old.drawn ≤ new.drawn
  pub written : IsWritten end.run (lines_of calls) old_output new_output
  pub reason : IsReason turns calls phase new.drawn end.run
  pub stopped : IsStop turns new.drawn end.stop

-- the one call that takes reports, which handed these out, unless it had no turn
abbrev pub taking_calls : Ending → List Report → List Call
taking_calls ending.Done handed = reports handed ∷ []
taking_calls ending.WriteFault handed = reports handed ∷ []
taking_calls ending.OutOfMemory handed = []
taking_calls (ending.StoreFull n) handed = []

-- a full store is named only if all turns are drawn
abbrev pub IsFull : ℕ → ℕ → Ending → Type 0
IsFull turns drawn (ending.StoreFull n) = (n ≡ turns) × (drawn ≡ turns)
IsFull turns drawn other = Unit {0}

-- A pass takes reports: its one call stands in the history at the place that the pass gained, and the lines of what it
-- handed out were added to the output
pub record TakesReports
    (start : Core) (turns : ℕ)
    (old : Knowledge Entry) (old_output : Output) (end : Ending) (new : Knowledge Entry) (new_output : Output)
    : Type 0 where
  pub handed : List Report
  pub made : Made start old new (taking_calls end handed)
  pub drawn : old.drawn ≤ new.drawn
  pub written : IsWritten end (lines_of (taking_calls end handed)) old_output new_output
  pub full : IsFull turns new.drawn end
