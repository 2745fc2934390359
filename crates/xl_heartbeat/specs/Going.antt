-- How beats lead on. Source: what the code of this crate relies on. No public clause cites this file.
use Rattle.std.specs.Prelude.{◌≡◌, ℕ, ◌≤◌, Bool, List, Some, None, if◌then◌else◌}
use Rattle.std.specs.declared.option.Option.{Option}
use Rattle.xl_lists.specs.Lists.{TrustedList}
use Rattle.xl_turns.specs.declared.view.Knowledge.{Knowledge}
use Rattle.xl_core.specs.Core.{Core}
use Rattle.xl_store.specs.declared.entry.Entry.{Entry}
use Rattle.xl_store.specs.declared.store.StoreEnd.{StoreEnd}
use Rattle.xl_store.specs.declared.store.StoreEnd.TheVariants as refused
use Rattle.xl_store.specs.Calls.{Call, Made}
use Rattle.xl_heartbeat.specs.declared.pulse.Pulse.{Pulse}
use Rattle.xl_heartbeat.specs.declared.standing.Standing.{Standing}
use Rattle.xl_heartbeat.specs.declared.ends.Ending.{Ending}
use Rattle.xl_heartbeat.specs.declared.ends.Ending.TheVariants as ending
use Rattle.xl_heartbeat.specs.declared.ends.Stopping.{Stopping}
use Rattle.xl_heartbeat.specs.Looks.{with_set}
use Rattle.xl_heartbeat.specs.Outputs.{Output, Adds, IsWritten}
use Rattle.xl_heartbeat.specs.Relisting.{Relists}
use Rattle.xl_heartbeat.specs.Beats.{Phase, IsBeating, IsReason, IsStop, lines_of, stop_calls}

abbrev pub ending_of : StoreEnd → Ending
ending_of refused.OutOfMemory = ending.OutOfMemory
ending_of (refused.StoreFull n) = ending.StoreFull n

-- whether a beat was the last, once its reports were taken
abbrev pub after_reports : Ending → Bool → Option Ending
after_reports ending.Done over = if over then Some ending.Done else None
after_reports other over = Some other

-- beats, all of whose reports were written
pub record Beating
    (start : Core) (may_give : ℕ → Bool) (pulse : Pulse)
    (old : Knowledge Entry) (old_output : Output) (phase : Phase) (new : Knowledge Entry) (new_output : Output)
    : Type 0 where
  pub calls : List Call
  pub run : IsBeating may_give pulse calls phase
  pub made : Made start old new calls
  pub drawn : old.drawn ≤ new.drawn
  pub adds : Adds (lines_of calls) old_output new_output

-- all beats of a heartbeat
pub record Beaten
    (start : Core) (turns : ℕ) (may_give : ℕ → Bool) (pulse : Pulse)
    (old : Knowledge Entry) (old_output : Output) (end : Ending) (new : Knowledge Entry) (new_output : Output)
    : Type 0 where
  pub calls : List Call
  pub phase : Phase
  pub run : IsBeating may_give pulse calls phase
  pub made : Made start old new calls
  pub drawn : old.drawn ≤ new.drawn
  pub written : IsWritten end (lines_of calls) old_output new_output
  pub reason : IsReason turns calls phase new.drawn end

-- they go on from there, or are over
abbrev pub Follows : Core → ℕ → (ℕ → Bool) → Pulse
    → Knowledge Entry → Output → Standing → Option Ending → Knowledge Entry → Output → Type 0
Follows start turns may_give pulse old old_output standing None new new_output =
    Beating start may_give pulse old old_output (Phase.Beats standing) new new_output
Follows start turns may_give pulse old old_output standing (Some end) new new_output =
    Beaten start turns may_give pulse old old_output end new new_output

-- the publishers' list of a moment was asked for, if it is another than the one last set
pub record Relisted (start : Core) (theirs : Option TrustedList) (now : ℕ) (before : Standing)
    (old : Knowledge Entry) (after : Standing) (new : Knowledge Entry) : Type 0 where
  pub calls : List Call
  pub next : TrustedList
  pub asked : Relists theirs now before.set calls next
  pub is : after ≡ with_set before next
  pub made : Made start old new calls
  pub drawn : old.drawn ≤ new.drawn

-- the store was told that the node is to stop, or is full; if all turns were drawn, they still are
pub record Stops (start : Core) (turns : ℕ) (old : Knowledge Entry) (stop : Stopping) (new : Knowledge Entry) : Type 0
  where
    pub made : Made start old new (stop_calls stop)
    pub drawn : old.drawn ≤ new.drawn
    pub stopped : IsStop turns new.drawn stop
    pub full : old.drawn ≡ turns → new.drawn ≡ turns
