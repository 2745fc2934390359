-- What a command leaves whose journal is written behind its run, and one whose journal isn't.
use Rattle.std.proofs.Common.{◌≡◌, ◌≢◌, ℕ, ◌≤◌, Bool, true, false, List, length, Option, Some, None, IfSome, refl, sym, ap, ◌∙◌, subst, arith, inl, inr}
use Rattle.std.specs.Prelude.{◌⊎◌, IsSome, is_some}
use Rattle.xl_base.specs.Faults.{Rose}
use Rattle.xl_base.specs.declared.status.Status.{Status}
use Rattle.xl_base.specs.declared.status.Status.TheVariants as status
use Rattle.xl_io.specs.Keepers.{Held}
use Rattle.xl_links.specs.Requests.{Offers}
use Rattle.xl_turns.specs.Histories.{IsLegal}
use Rattle.xl_core.specs.Core.{Core}
use Rattle.xl_store.specs.declared.entry.Entry.{Entry}
use Rattle.xl_store.specs.Entries.{Leads}
use Rattle.xl_heartbeat.specs.Outputs.{Output}
use Rattle.xl_audit.specs.Journals.{start_of}
use Rattle.xl_audit.specs.Rereading.{SaysYes}
use Rattle.xl_core.specs.declared.settings.Settings.{Settings as CoreSettings}
use Rattle.xl_settings.specs.declared.settings.Settings.{Settings}
use Rattle.xl_workers.specs.Linking.{HubSeen}
use Rattle.xl_validator.specs.ListsSet.{AreEverKeyed}
use Rattle.xl_validator.specs.Openings.{Task, core_settings, opening_core, rolls_of, task_of}
use Rattle.xl_validator.specs.Preparing.{Leaves}
use Rattle.xl_validator.specs.Recordings.{IsWritten, is_over, is_written, text_by, text_of}
use Rattle.xl_validator.specs.Validators.{Between, Goes, HasRecorded, HasRun, IsOfNode, IsUnopened, Loads}
use Rattle.xl_validator.proofs.SettingLists.{are_set}
use Rattle.xl_validator.proofs.Ending.{by_time, by_full, by_beats}

over_of : (asked : Bool) (ended : Status) → is_written asked ended ≡ true → is_over ended ≡ true
over_of true ended is = is
over_of false ended is = absurd cc

over_known : (end : Status) → is_over end ≡ true → IsOfNode end
over_known status.Done over = tt
over_known status.StoreFull over = tt
over_known other over = absurd cc

-- the status of what is written
module _ (text : List ℕ) (ended : Status) (over : is_over ended ≡ true) where
  pub written_known : (end : Status) (old new : Output) → IsWritten text ended end old new → IsOfNode end
  written_known status.WriteFault old new is = tt
  written_known status.OutOfMemory old new is = tt
  written_known other old new is = over_known other (ap is_over is.0 ∙ over)

  pub written_keeper : (end : Status) (old new : Output) → IsWritten text ended end old new → end ≢ status.KeepFault
  written_keeper end old new is same =
      let there : IsWritten text ended status.KeepFault old new = subst (λ (s : Status). IsWritten text ended s old new) same is in
      let no : is_over status.KeepFault ≡ true = ap is_over there.0 ∙ over in cc

  pub written_net : (end : Status) (old new : Output) → IsWritten text ended end old new → end ≢ status.NetFault
  written_net end old new is same =
      let there : IsWritten text ended status.NetFault old new = subst (λ (s : Status). IsWritten text ended s old new) same is in
      let no : is_over status.NetFault ≡ true = ap is_over there.0 ∙ over in cc

  pub written_fault : (end : Status) (old new : Output) → IsWritten text ended end old new → end ≡ status.WriteFault
      → Rose old.faults new.faults
  written_fault end old new is same = (subst (λ (s : Status). IsWritten text ended s old new) same is).failed

rose_later : (a b c : ℕ) → a ≤ b → Rose b c → Rose a c
rose_later a b c le rose = omega (arith, le, rose)

some_of : {A : Type 0} (o : Option A) → IsSome o → (x : A) × (o ≡ Some x)
some_of (Some x) is = (x, refl)
some_of None is = absurd cc

at_some : {A : Type 0} (P : A → Type 0) (o : Option A) (x : A) → o ≡ Some x → IfSome o P → P x
at_some {A} P o x is p = let all : IfSome (Some x) P = subst (λ (q : Option A). IfSome q P) is p in all

-- A NODE AND ITS JOURNAL

module _ {K O : Type 0}
    (held_by : K → Option Held) (saves_of : K → Option (List ℕ)) (faults_of : K → ℕ)
    (load_gives : K → ℕ → K → Type 0) (save_gives : K → ℕ → Bool → K → Type 0)
    (s : Settings) (moment kept : ℕ) (may_give : ℕ → Bool) (links : Offers)
    (old_hub new_hub : HubSeen) (before reported after : Output) (old_output new_output end_output : O)
    (old loaded kept_by new : K) (ended end : Status) (ran journal : Option (List Entry)) where
  abbrev at_run : Between
  at_run = record { old_hub = old_hub; new_hub = new_hub; old_output = before; new_output = reported }

  abbrev at_end : Between
  at_end = record { old_hub = old_hub; new_hub = new_hub; old_output = before; new_output = after }

  abbrev Ran : Between → Status → List Entry → Type 0
  Ran outside by history =
      (is_written s.journal by ≡ false)
      × HasRun held_by saves_of faults_of load_gives save_gives s moment may_give links outside old new by history

  abbrev Recorded : Type 0
  Recorded = HasRecorded held_by saves_of faults_of load_gives save_gives s moment may_give links at_end old new end

  -- what `start` promises of how it ends
  pub record Ends : Type 0 where
    pub runs : IfSome journal (Ran at_end end)
    pub unopened : journal ≡ None → (IsUnopened end × (saves_of new ≡ saves_of old) × (new_hub ≡ old_hub)
        × (end_output ≡ old_output)) ⊎ Recorded
    pub known : IsOfNode end
    pub write : end ≡ status.WriteFault → Rose before.faults after.faults
    pub keeper : end ≢ status.KeepFault
    pub net : end ≡ status.NetFault → Rose old_hub.faults new_hub.faults
    pub failed : end ≡ status.NetFault → ended ≡ status.NetFault

  module _ (core : Core) (task : Task) (opened : core ≡ opening_core s moment kept) (tasked : task ≡ task_of s moment)
      (ever : AreEverKeyed (rolls_of s) s.publishing core)
      (loads : Loads held_by saves_of faults_of load_gives save_gives old kept loaded)
      (leaves : Leaves held_by saves_of faults_of save_gives core task may_give links at_run
      old_output new_output loaded kept_by ended ran) (same : new ≡ kept_by) where
    abbrev GoesSo : List Entry → Type 0
    GoesSo history = Goes held_by saves_of faults_of save_gives core task may_give links at_run loaded kept_by ended history

    abbrev has_run : (history : List Entry) → GoesSo history
        → HasRun held_by saves_of faults_of load_gives save_gives s moment may_give links at_run old new ended history
    has_run history goes = record {
      kept = kept;
      loaded = loaded;
      loads = loads;
      goes = subst (λ (k : K). Goes held_by saves_of faults_of save_gives (opening_core s moment kept) (task_of s moment) may_give links at_run loaded k ended history) (sym same)
          (subst (λ (t : Task). Goes held_by saves_of faults_of save_gives (opening_core s moment kept) t may_give links at_run loaded kept_by ended history) tasked
          (subst (λ (c : Core). Goes held_by saves_of faults_of save_gives c task may_give links at_run loaded kept_by ended history) opened goes));
      set = are_set (rolls_of s) s.publishing (opening_core s moment kept) history (subst (λ (c : Core). AreEverKeyed (rolls_of s) s.publishing c) opened ever)
          (subst (λ (c : Core). IsLegal Leads c history) opened goes.legal);
    }

    -- no journal is written: nothing more happens
    stays : is_written s.journal ended ≡ false → end ≡ ended → journal ≡ ran → end_output ≡ new_output → after ≡ reported → Ends
    stays not_so is handed silent same_output = record {
      runs = subst (λ (j : Option (List Entry)). IfSome j (Ran at_end end)) (sym handed)
          (subst (λ (o : Output). IfSome ran (Ran (record { old_hub = old_hub; new_hub = new_hub; old_output = before; new_output = o }) end)) (sym same_output)
          (subst (λ (e : Status). IfSome ran (Ran at_run e)) (sym is) (all ran leaves.goes)));
      unopened = λ none. inl (
        subst IsUnopened (sym is) (leaves.opened (sym handed ∙ none)),
        ap saves_of (same ∙ leaves.unsaved (sym handed ∙ none)) ∙ loads.saves,
        leaves.unlinked (sym handed ∙ none),
        silent ∙ leaves.unopened (sym handed ∙ none),
      );
      known = subst IsOfNode (sym is) leaves.known;
      write = λ w. subst (λ (o : Output). Rose before.faults o.faults) (sym same_output) (leaves.write (sym is ∙ w));
      keeper = λ k. leaves.keeper (sym is ∙ k);
      net = λ n. leaves.net (sym is ∙ n);
      failed = λ n. sym is ∙ n;
    }
      where
        all : (j : Option (List Entry))
            → IfSome j GoesSo
            → IfSome j (Ran at_run ended)
        all None goes = tt
        all (Some history) goes = (not_so, has_run history goes)

    -- the journal is written
    goes_behind : (history : List Entry) → ran ≡ Some history → is_written s.journal ended ≡ true → journal ≡ None
        → IsWritten (text_of s moment kept history) ended end reported after
        → (s.journal_keys ≡ true → is_over end ≡ true → SaysYes (text_of s moment kept history) (length history)) → Ends
    goes_behind history handed asked none text audited =
        let over : is_over ended ≡ true = over_of s.journal ended asked in
        let run = has_run history (at_some GoesSo ran history handed leaves.goes) in
        record {
          runs = subst (λ (j : Option (List Entry)). IfSome j (Ran at_end end)) (sym none) tt;
          unopened = λ _. inr (record {
            history = history;
            ended = ended;
            reported = reported;
            asked = asked;
            run = run;
            text = text;
            done = by_time held_by saves_of faults_of load_gives save_gives may_give links old new s moment at_run ended history run;
            full = by_full held_by saves_of faults_of load_gives save_gives may_give links old new s moment at_run ended history run;
            beats = by_beats held_by saves_of faults_of load_gives save_gives may_give links old new s moment at_run ended history run;
            yes = audited;
          });
          known = written_known (text_of s moment kept history) ended over end reported after text;
          write = λ w. rose_later before.faults reported.faults after.faults (leaves.later over) (written_fault (text_of s moment kept history) ended over end reported after text w);
          keeper = written_keeper (text_of s moment kept history) ended over end reported after text;
          net = λ n. absurd (written_net (text_of s moment kept history) ended over end reported after text n);
          failed = λ n. absurd (written_net (text_of s moment kept history) ended over end reported after text n);
        }

    -- by what is asked, and by how the run ended
    pub ends : (asked : Bool) → asked ≡ s.journal
        → (is_written asked ended ≡ false → (end ≡ ended) × (journal ≡ ran) × (end_output ≡ new_output))
        → (end_output ≡ new_output → after ≡ reported)
        → (is_written asked ended ≡ true → journal ≡ None)
        → (is_written asked ended ≡ true → IsSome ran)
        → (is_written asked ended ≡ true → (history : List Entry) → ran ≡ Some history
        → IsWritten (text_of s moment kept history) ended end reported after)
        → (is_written asked ended ≡ true → is_over end ≡ true → (history : List Entry) → ran ≡ Some history
        → s.journal_keys ≡ true → SaysYes (text_of s moment kept history) (length history))
        → Ends
    ends asked is left silent none some written audited =
        elim (is_written asked ended) as (λ v. is_written asked ended ≡ v → Ends) [
          | true ↦ λ yes.
              let handed = some_of ran (some yes) in
              goes_behind handed.0 handed.1 (ap (λ (b : Bool). is_written b ended) (sym is) ∙ yes) (none yes) (written yes handed.0 handed.1)
              (λ with_keys over. audited yes over handed.0 handed.1 with_keys)
          | false ↦ λ not_so.
              let same = left not_so in
              stays (ap (λ (b : Bool). is_written b ended) (sym is) ∙ not_so) same.0 same.1 same.2 (silent same.2)
        ] refl

-- WHAT A JOURNAL BEGINS WITH

module _ {R : Type 0} (settings_in : R → CoreSettings) (now_in kept_in : R → ℕ) (s : Settings) (moment kept : ℕ) where
  -- the history of a run is legal at the core that it begins with
  pub legal_there : (recording : Option R) (ran : Option (List Entry)) (start : Core) → start ≡ opening_core s moment kept
      → IfSome recording (λ r. settings_in r ≡ core_settings s) → IfSome recording (λ r. now_in r ≡ moment) → IfSome recording (λ r. kept_in r ≡ kept)
      → IfSome ran (λ history. IsLegal Leads start history)
      → IfSome recording (λ r. IfSome ran (λ history. IsLegal Leads (start_of (settings_in r) (now_in r) (kept_in r)) history))
  legal_there None ran start is settings now number legal = tt
  legal_there (Some r) ran start is settings now number legal =
      let same : start ≡ start_of (settings_in r) (now_in r) (kept_in r) =
      is ∙ ap (λ (c : CoreSettings). start_of c moment kept) (sym settings) ∙ ap (λ (n : ℕ). start_of (settings_in r) n kept) (sym now)
      ∙ ap (λ (n : ℕ). start_of (settings_in r) (now_in r) n) (sym number) in
      subst (λ (c : Core). IfSome ran (λ history. IsLegal Leads c history)) same legal

  -- and what holds of its text there holds of the text of the run
  pub text_there : (keys_in : R → Bool) (P : Bool → List ℕ → List Entry → Type 0) (recording : Option R) (ran : Option (List Entry)) (ended : Status)
      → is_written (is_some recording) ended ≡ true
      → IfSome recording (λ r. settings_in r ≡ core_settings s) → IfSome recording (λ r. now_in r ≡ moment) → IfSome recording (λ r. kept_in r ≡ kept)
      → IfSome recording (λ r. keys_in r ≡ s.journal_keys)
      → IfSome recording (λ r. IfSome ran (λ history. P (keys_in r) (text_by (keys_in r) (settings_in r) (now_in r) (kept_in r) history) history))
      → (history : List Entry) → ran ≡ Some history → P s.journal_keys (text_of s moment kept history) history
  text_there keys_in P None ran ended asked settings now number keys all history handed = absurd cc
  text_there keys_in P (Some r) ran ended asked settings now number keys all history handed =
      let same : text_by (keys_in r) (settings_in r) (now_in r) (kept_in r) history ≡ text_by (keys_in r) (core_settings s) moment kept history =
      ap (λ (c : CoreSettings). text_by (keys_in r) c (now_in r) (kept_in r) history) settings
      ∙ ap (λ (n : ℕ). text_by (keys_in r) (core_settings s) n (kept_in r) history) now
      ∙ ap (λ (n : ℕ). text_by (keys_in r) (core_settings s) moment n history) number in
      subst (λ (b : Bool). P b (text_by b (core_settings s) moment kept history) history) keys
      (subst (λ (text : List ℕ). P (keys_in r) text history) same
      (at_some (λ h. P (keys_in r) (text_by (keys_in r) (settings_in r) (now_in r) (kept_in r) h) h) ran history handed all))

-- the histories of runs are legal
pub legal_of : {K : Type 0} (held_by : K → Option Held) (saves_of : K → Option (List ℕ)) (faults_of : K → ℕ) (save_gives : K → ℕ → Bool → K → Type 0)
    (start : Core) (task : Task) (may_give : ℕ → Bool) (links : Offers) (outside : Between) (old new : K) (end : Status) (ran : Option (List Entry))
    → IfSome ran (λ history. Goes held_by saves_of faults_of save_gives start task may_give links outside old new end history)
    → IfSome ran (λ history. IsLegal Leads start history)
legal_of held_by saves_of faults_of save_gives start task may_give links outside old new end None goes = tt
legal_of held_by saves_of faults_of save_gives start task may_give links outside old new end (Some history) goes = goes.legal
