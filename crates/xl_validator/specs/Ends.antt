-- What the status of a node says of its settings and of the calls of its history. Source: this project's own.
use Rattle.std.specs.Prelude.{◌≡◌, ℕ, ◌+◌, ◌<◌, ◌≤◌, ◌⊎◌, Bool, true, List, [], ◌∷◌, ◌++◌, length, map, Some, Ok, IsOk, IsErr, IfSome, slice_get}
use Rattle.std.specs.declared.option.Option.{Option}
use Rattle.std.specs.List.{AllByRecursion, flat_map}
use Rattle.xl_base.specs.Faults.{Rose}
use Rattle.xl_base.specs.declared.status.Status.{Status}
use Rattle.xl_base.specs.declared.status.Status.TheVariants as status
use Rattle.xl_lists.specs.Lists.{TrustedList}
use Rattle.xl_publish.specs.declared.publishing.Publishing.{Publishing}
use Rattle.xl_core.specs.declared.timer_answer.TimerAnswer.{TimerAnswer}
use Rattle.xl_core.specs.declared.event.CoreEvent.{CoreEvent}
use Rattle.xl_core.specs.declared.event.CoreEvent.TheVariants.{Timer}
use Rattle.xl_core.specs.declared.report.Report.{Report}
use Rattle.xl_store.specs.declared.entry.Entry.{Entry}
use Rattle.xl_store.specs.Calls.{Call, calls_of, Rise}
use Rattle.xl_heartbeat.specs.declared.ends.Stopping.{Stopping}
use Rattle.xl_heartbeat.specs.Beats.{timer, reports, stop_calls}
use Rattle.xl_heartbeat.specs.declared.rolls_text.RollsText.{RollsText}
use Rattle.xl_heartbeat.specs.Looks.{IsLed}
use Rattle.xl_heartbeat.specs.Relisting.{made_at, Relists}
use Rattle.xl_settings.specs.declared.settings.Settings.{Settings}
use Rattle.xl_settings.specs.Settings.{settings_of}
use Rattle.xl_workers.specs.Pairing.{Paired}
use Rattle.xl_workers.specs.Submits.{IsSubmit}
use Rattle.xl_validator.specs.Openings.{opening_core, rolls_of}

-- A node ran by the settings that the input held at a moment that the clock may give, and this is so of them, of that
-- moment and of the calls of its history, which is the journal if that is handed back
pub record HasRunSo (Holds : Settings → ℕ → List Call → Type 0)
    (input : Option (List ℕ)) (may_give : ℕ → Bool) (journal : Option (List Entry)) : Type 0 where
  pub settings : Settings
  pub moment : ℕ
  pub kept : ℕ
  pub history : List Entry
  pub given : may_give moment ≡ true
  pub read : IfSome input (λ bytes. settings_of bytes moment ≡ Ok settings)
  pub handed : IfSome journal (λ entries. entries ≡ history)
  pub holds : Holds settings moment (calls_of (opening_core settings moment kept) history)

-- the event is no timer
abbrev pub IsNoTimer : CoreEvent → Type 0
IsNoTimer (Timer now) = ⊥
IsNoTimer other = Unit {0}

-- the run has an end, and the last timer came when that was reached
pub record EndsByTime (s : Settings) (moment : ℕ) (calls : List Call) : Type 0 where
  pub earlier : List Call
  pub now : ℕ
  pub beat : TimerAnswer
  pub later : List Call
  pub parts : calls ≡ earlier ++ timer now beat ∷ later
  pub last : AllByRecursion (λ call. IsNoTimer call.event) later
  pub bounded : 0 < s.run_ms
  pub reached : moment + s.run_ms ≤ now

-- the store has no turn left
abbrev pub EndsFull : Settings → ℕ → List Call → Type 0
EndsFull s moment calls = length calls ≡ s.turns

-- the submits are all calls
abbrev pub AreSubmits : (ℕ → Bool) → Settings → ℕ → List Call → Type 0
AreSubmits may_give s moment calls = Paired (IsSubmit may_give) s.submit calls

-- one whole beat: the list of the publishers, by the rolls that they have then, is set if it is another than the one
-- last set, the moment is told, and reports are taken
pub record IsBeat (rolls : Option RollsText) (first : Option Publishing) (calls : List Call) : Type 0 where
  pub led : Option Publishing
  pub is_led : IsLed rolls first led
  pub now : ℕ
  pub set : TrustedList
  pub next : TrustedList
  pub asked : List Call
  pub beat : TimerAnswer
  pub handed : List Report
  pub relists : Relists (made_at led now) now set asked next
  pub is : calls ≡ asked ++ timer now beat ∷ reports handed ∷ []

-- the place is one of these
abbrev pub StandsIn : ℕ → List ℕ → Type 0
StandsIn place [] = ⊥
StandsIn place (p ∷ places) = (place ≡ p) ⊎ StandsIn place places

-- All timers are those of beats, of which only the last may be cut short, and behind which the one stop comes
pub record AreBeats (rolls : Option RollsText) (first : Option Publishing) (calls : List Call) : Type 0 where
  pub whole : List (List Call)
  pub cut : List Call
  pub stop : Stopping
  pub places : List ℕ
  pub each : AllByRecursion (IsBeat rolls first) whole
  pub last : (cut ≡ []) ⊎ ((missing : List Call) × IsBeat rolls first (cut ++ missing))
  pub stand : map (slice_get calls) places ≡ map Some (flat_map (λ (beat : List Call). beat) whole ++ cut ++ stop_calls stop)
  pub rise : Rise 0 places (length calls)
  pub timers : (place now : ℕ) (beat : TimerAnswer) → slice_get calls place ≡ Some (timer now beat) → StandsIn place places

abbrev pub HasBeats : Settings → ℕ → List Call → Type 0
HasBeats s moment calls = AreBeats (rolls_of s) s.publishing calls

-- a count of faults didn't rise
abbrev pub IsQuiet : ℕ → ℕ → Type 0
IsQuiet before after = Rose before after → ⊥

-- if nothing fails and turns are left: refused settings end it so, others by time, or memory ran out
abbrev pub IsComplete : Option (List ℕ) → ℕ → Status → Type 0
IsComplete input moment status.Done = IfSome input (λ bytes. IsOk (settings_of bytes moment))
IsComplete input moment status.InputRefused = IfSome input (λ bytes. IsErr (settings_of bytes moment))
IsComplete input moment status.OutOfMemory = Unit {0}
IsComplete input moment other = ⊥

-- at a moment that the clock may give
abbrev pub CompletesAt : Option (List ℕ) → (ℕ → Bool) → Status → Type 0
CompletesAt input may_give end = (moment : ℕ) × (may_give moment ≡ true) × IsComplete input moment end
