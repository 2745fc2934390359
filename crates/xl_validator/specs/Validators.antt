-- A whole run of the command `node`. Source: this project's own.
use Rattle.std.specs.Prelude.{◌≡◌, ◌⊎◌, ℕ, ◌≤◌, Bool, true, false, List, length, None, Ok, IsErr, IfSome, IfOk, IfErr, option_map}
use Rattle.std.specs.declared.option.Option.{Option}
use Rattle.std.specs.Io.KnownBytes.{append_known}
use Rattle.xl_base.specs.declared.status.Status.{Status}
use Rattle.xl_base.specs.declared.status.Status.TheVariants as status
use Rattle.xl_io.specs.Keepers.{Held, MayHold, holding}
use Rattle.xl_io.specs.Sinks.{GrewByFront}
use Rattle.xl_links.specs.Requests.{Offers}
use Rattle.xl_turns.specs.Histories.{IsLegal}
use Rattle.xl_store.specs.declared.entry.Entry.{Entry}
use Rattle.xl_store.specs.Calls.{calls_of}
use Rattle.xl_store.specs.Closing.{KeepsAll}
use Rattle.xl_store.specs.Entries.{Leads}
use Rattle.xl_heartbeat.specs.Outputs.{Output, output}
use Rattle.xl_audit.specs.Rereading.{SaysYes}
use Rattle.xl_settings.specs.declared.settings.Settings.{Settings}
use Rattle.xl_settings.specs.Lines.{refusal_line}
use Rattle.xl_settings.specs.Settings.{settings_of}
use Rattle.xl_workers.specs.declared.ends.RunEnd.{RunEnd}
use Rattle.xl_workers.specs.Linking.{HubSeen}
use Rattle.xl_workers.specs.Runs.{NodeRun, doing_of, status_of_end}
use Rattle.xl_workers.specs.Sharing.{setting}
use Rattle.xl_core.specs.Core.{Core}
use Rattle.xl_validator.specs.Ends.{EndsByTime, EndsFull, HasBeats}
use Rattle.xl_validator.specs.ListsSet.{AreSet}
use Rattle.xl_validator.specs.Openings.{Task, opening_core, rolls_of, task_of}
use Rattle.xl_validator.specs.Recordings.{IsWritten, is_over, is_written, text_of}

-- of the line that tells a refusal a front is written, and with the status of a refusal all of it
pub record IsRefused (line : List ℕ) (end : Status) (old new : Option (List ℕ)) : Type 0 where
  pub front : GrewByFront old new line
  pub whole : end ≡ status.InputRefused → new ≡ append_known old line

-- settings that are refused open no store and leave the keeper and the hub, and their line is told
abbrev pub HasRefused : Option (List ℕ) → ℕ → Type 0 → Option (List Entry) → Status → Option (List ℕ)
    → Option (List ℕ) → Type 0
HasRefused input moment untouched journal end old new =
    IfSome input (λ bytes. IfErr (settings_of bytes moment) (λ refusal.
    (journal ≡ None) × untouched × IsRefused (refusal_line refusal) end old new))

-- what a run stands between: the hub and the output before it and after it
pub record Between : Type 0 where
  pub old_hub : HubSeen
  pub new_hub : HubSeen
  pub old_output : Output
  pub new_output : Output

abbrev pub between : HubSeen → HubSeen → Option (List ℕ) → ℕ → Option (List ℕ) → ℕ → Between
between old_hub new_hub old_held old_writes new_held new_writes = record {
  old_hub = old_hub;
  new_hub = new_hub;
  old_output = output old_held old_writes;
  new_output = output new_held new_writes;
}

-- a status of this command if no store was opened
abbrev pub IsUnopened : Status → Type 0
IsUnopened status.Done = ⊥
IsUnopened status.Fork = ⊥
IsUnopened status.WordsRefused = ⊥
IsUnopened status.NetFault = ⊥
IsUnopened status.StoreFull = ⊥
IsUnopened other = Unit {0}

-- no store was opened, no save was asked and no link, and unless the settings were refused nothing was written
abbrev pub IsUnopenedAt : Option (List ℕ) → ℕ → Status → Type 0 → Type 0 → Type 0 → Type 0
IsUnopenedAt input moment end unsaved unlinked silent =
    IsUnopened end × unsaved × unlinked × IfSome input (λ bytes. IfOk (settings_of bytes moment) (λ _. silent))

module _ {K : Type 0}
    (held_by : K → Option Held) (saves_of : K → Option (List ℕ)) (faults_of : K → ℕ)
    (save_gives : K → ℕ → Bool → K → Type 0) where
  -- A run over an open core: the journal of its store is a legal history of the core, whose places are shared out; it
  -- leaves the keeper; and its end is the status
  pub record Goes (start : Core) (task : Task) (may_give : ℕ → Bool) (links : Offers) (outside : Between)
      (old new : K) (end : Status) (history : List Entry) : Type 0 where
    pub run_end : RunEnd
    pub legal : IsLegal Leads start history
    pub run : NodeRun (setting start task.turns may_give links)
        (doing_of task.submits task.targets task.door task.pulse
        outside.old_hub outside.new_hub outside.old_output outside.new_output) run_end history
    pub keeps : KeepsAll held_by saves_of faults_of save_gives start history old new
    pub limit : length history ≤ task.turns
    pub is : end ≡ status_of_end run_end

module _ {K : Type 0}
    (held_by : K → Option Held) (saves_of : K → Option (List ℕ)) (faults_of : K → ℕ)
    (load_gives : K → ℕ → K → Type 0) (save_gives : K → ℕ → Bool → K → Type 0) where
  -- a keeper answers a number that it may hold, and that its medium says, and holds that one alone from then on
  pub record Loads (old : K) (kept : ℕ) (new : K) : Type 0 where
    pub held : IfSome (held_by old) (λ held. MayHold held kept)
    pub alone : held_by new ≡ option_map (λ _. holding kept) (held_by old)
    pub saves : saves_of new ≡ saves_of old
    pub gives : load_gives old kept new
    pub later : faults_of old ≤ faults_of new

  -- A node ran by these settings: it was opened at this moment, with the number that its keeper loaded; and no list of
  -- its publishers was refused
  pub record HasRun (s : Settings) (moment : ℕ) (may_give : ℕ → Bool) (links : Offers) (outside : Between)
      (old new : K) (end : Status) (history : List Entry) : Type 0 where
    pub kept : ℕ
    pub loaded : K
    pub loads : Loads old kept loaded
    pub goes : Goes held_by saves_of faults_of save_gives
        (opening_core s moment kept) (task_of s moment) may_give links outside loaded new end history
    pub set : AreSet (rolls_of s) s.publishing (opening_core s moment kept) history

  -- a node ran by the settings that the input held at the moment of its opening, and its journal isn't written
  abbrev pub IsNodeRun : Option (List ℕ) → ℕ → (ℕ → Bool) → Offers → Between → K → K → Status → List Entry
      → Type 0
  IsNodeRun input moment may_give links outside old new end history =
      (s : Settings)
      × IfSome input (λ bytes. settings_of bytes moment ≡ Ok s)
      × (is_written s.journal end ≡ false)
      × HasRun s moment may_give links outside old new end history

  -- A node ran by these settings up to an output, and ended so that its journal is written behind it
  pub record HasRecorded (s : Settings) (moment : ℕ) (may_give : ℕ → Bool) (links : Offers) (outside : Between)
      (old new : K) (end : Status) : Type 0 where
    pub history : List Entry
    pub ended : Status
    pub reported : Output
    pub asked : is_written s.journal ended ≡ true
    pub run : HasRun s moment may_give links (record outside { new_output = reported }) old new ended history
    pub text : IsWritten (text_of s moment run.kept history) ended end reported outside.new_output
    -- its last timer reached the end of its time, or all turns of the settings were drawn; and its timers are those of
    -- beats
    pub done : ended ≡ status.Done → EndsByTime s moment (calls_of (opening_core s moment run.kept) history)
    pub full : ended ≡ status.StoreFull → EndsFull s moment (calls_of (opening_core s moment run.kept) history)
    pub beats : HasBeats s moment (calls_of (opening_core s moment run.kept) history)
    -- and if all of that text was written, and with keys, `audit` says yes to it, with the number of its entries, which
    -- may be as many as it takes
    pub yes : s.journal_keys ≡ true → is_over end ≡ true → SaysYes (text_of s moment run.kept history) (length history)

  -- by the settings that the input held
  abbrev pub IsRecordedRun : Option (List ℕ) → ℕ → (ℕ → Bool) → Offers → Between → K → K → Status → Type 0
  IsRecordedRun input moment may_give links outside old new end =
      (s : Settings)
      × IfSome input (λ bytes. settings_of bytes moment ≡ Ok s)
      × HasRecorded s moment may_give links outside old new end

  -- A whole run of the command. There is one moment, which the clock may give, at which the settings are judged and at
  -- which the core is opened
  pub record Judges {O : Type 0} (input : Option (List ℕ)) (may_give : ℕ → Bool) (links : Offers)
      (outside : Between) (old_output new_output : O) (old new : K) (end : Status) (journal : Option (List Entry))
      : Type 0 where
    pub moment : ℕ
    pub given : may_give moment ≡ true
    pub refused : HasRefused input moment ((new ≡ old) × (outside.new_hub ≡ outside.old_hub)) journal end
        outside.old_output.held outside.new_output.held
    pub told : end ≡ status.InputRefused → IfSome input (λ bytes. IsErr (settings_of bytes moment))
    -- without settings keeper and hub are asked nothing
    pub untouched : (end ≡ status.InputRefused) ⊎ (end ≡ status.ReadFault)
        → (new ≡ old) × (outside.new_hub ≡ outside.old_hub)
    pub ran : IfSome journal (λ history. IsNodeRun input moment may_give links outside old new end history)
    -- if no journal is handed back it was written, or no store was opened
    pub unopened : journal ≡ None
        → IsUnopenedAt input moment end (saves_of new ≡ saves_of old) (outside.new_hub ≡ outside.old_hub)
        (new_output ≡ old_output)
        ⊎ IsRecordedRun input moment may_give links outside old new end

-- a status of this command: it finds no fork, and no words are refused
abbrev pub IsKnown : Status → Type 0
IsKnown status.Fork = ⊥
IsKnown status.WordsRefused = ⊥
IsKnown other = Unit {0}

-- a status of a node whose settings were read
abbrev pub IsOfNode : Status → Type 0
IsOfNode status.Fork = ⊥
IsOfNode status.WordsRefused = ⊥
IsOfNode status.InputRefused = ⊥
IsOfNode status.ReadFault = ⊥
IsOfNode other = Unit {0}
