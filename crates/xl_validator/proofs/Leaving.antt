-- What a run leaves.
use Rattle.std.proofs.Common.{◌≡◌, Bool, ◌≤◌, ℕ, List, length, Option, Some, None, Result, Ok, Err, IfSome, IfOk, IfErr, OnErr, MatchResult, ap, sym, ◌∙◌, subst}
use Rattle.xl_base.specs.declared.status.Status.{Status}
use Rattle.xl_base.specs.declared.status.Status.TheVariants as status
use Rattle.xl_io.specs.Keepers.{Held}
use Rattle.xl_links.specs.Requests.{Offers}
use Rattle.xl_turns.specs.Histories.{IsLegal, Runs}
use Rattle.xl_core.specs.Core.{Core}
use Rattle.xl_store.specs.declared.entry.Entry.{Entry}
use Rattle.xl_store.specs.Closing.{KeepsAll}
use Rattle.xl_store.specs.Entries.{Leads}
use Rattle.xl_workers.specs.declared.ends.RunEnd.{RunEnd}
use Rattle.xl_workers.specs.Runs.{NodeRun, doing_of, status_of_end}
use Rattle.xl_workers.specs.Sharing.{setting}
use Rattle.xl_settings.specs.declared.settings.Settings.{Settings}
use Rattle.xl_validator.specs.ListsSet.{AreEverKeyed}
use Rattle.xl_validator.specs.Openings.{Task, opening_core, rolls_of, task_of}
use Rattle.xl_validator.specs.Preparing.{Leaves}
use Rattle.xl_validator.specs.Recordings.{is_over}
use Rattle.xl_validator.specs.Validators.{Between, Goes, HasRun, IsOfNode, Loads}
use Rattle.xl_validator.proofs.SettingLists.{are_set, some_both}
use Rattle.xl_validator.proofs.Causes.{known_end, keeps_no_fault, write_cause, net_cause, later_cause}

module _ {K O : Type 0}
    (held_by : K → Option Held) (saves_of : K → Option (List ℕ)) (faults_of : K → ℕ)
    (save_gives : K → ℕ → Bool → K → Type 0)
    (start : Core) (task : Task) (may_give : ℕ → Bool) (links : Offers) (outside : Between)
    (old_output new_output : O) (old new : K) (end : Status) (journal : Option (List Entry)) where
  abbrev pub Left : Status → Option (List Entry) → Type 0
  Left s j =
      Leaves held_by saves_of faults_of save_gives start task may_give links outside old_output new_output old new s j

  -- a node ran
  pub leaves_run : (e : RunEnd) (kept : K) (history : List Entry)
      → end ≡ status_of_end e → new ≡ kept → journal ≡ Some history
      → IsLegal Leads start history
      → NodeRun (setting start task.turns may_give links)
      (doing_of task.submits task.targets task.door task.pulse
      outside.old_hub outside.new_hub outside.old_output outside.new_output) e history
      → KeepsAll held_by saves_of faults_of save_gives start history old kept
      → length history ≤ task.turns
      → Left end journal
  leaves_run e kept history is same some legal run keeps limit = subst (Left end) (sym some)
      (record {
        goes = record {
          run_end = e;
          legal = legal;
          run = run;
          keeps = subst (KeepsAll held_by saves_of faults_of save_gives start history old) (sym same) keeps;
          limit = limit;
          is = is;
        };
        unopened = λ none. absurd cc;
        unsaved = λ none. absurd cc;
        unlinked = λ none. absurd cc;
        opened = λ none. absurd cc;
        known = subst IsOfNode (sym is) (known_end e);
        write = λ other. write_cause _ _ e history run (sym is ∙ other);
        keeper = λ other. keeps_no_fault e (sym is ∙ other);
        net = λ other. net_cause _ _ e history run (sym is ∙ other);
        later = λ over. later_cause _ _ e history run (ap is_over (sym is) ∙ over);
      })

  -- nothing ran
  pub leaves_none : end ≡ status.OutOfMemory → journal ≡ None → new_output ≡ old_output → new ≡ old
      → outside.new_hub ≡ outside.old_hub → Left end journal
  leaves_none is none same kept still = subst (Left end) (sym none)
      (subst (λ (s : Status). Left s None) (sym is)
      (record {
        goes = tt;
        unopened = λ nothing. same;
        unsaved = λ nothing. kept;
        unlinked = λ nothing. still;
        opened = λ nothing. tt;
        known = tt;
        write = λ other. absurd cc;
        keeper = λ other. cc;
        net = λ other. absurd cc;
        later = λ over. absurd cc;
      }))

  -- what is left of either
  pub leaves_by : {R S : Type 0} (N : Type 0) (still : N → outside.new_hub ≡ outside.old_hub)
      (ran : Result R S) (end_of : R → RunEnd) (core_of : R → Core) (kept_by : R → K)
      (history_of : R → List Entry) (spared_core : S → Core) (spared_by : S → K)
      → MatchResult ran (λ r. end ≡ status_of_end (end_of r)) (λ _. end ≡ status.OutOfMemory)
      → MatchResult ran (λ r. new ≡ kept_by r) (λ s. new ≡ spared_by s)
      → MatchResult ran (λ r. journal ≡ Some (history_of r)) (λ _. journal ≡ None)
      → IfOk ran (λ r. Runs Leads start (history_of r) (core_of r))
      → IfOk ran (λ r. NodeRun (setting start task.turns may_give links)
      (doing_of task.submits task.targets task.door task.pulse
      outside.old_hub outside.new_hub outside.old_output outside.new_output) (end_of r) (history_of r))
      → IfOk ran (λ r. KeepsAll held_by saves_of faults_of save_gives start (history_of r) old (kept_by r))
      → IfOk ran (λ r. length (history_of r) ≤ task.turns)
      → IfErr ran (λ s. (spared_core s ≡ start) × (spared_by s ≡ old))
      → OnErr ran (N × (new_output ≡ old_output))
      → Left end journal
  leaves_by N still (Ok r) end_of core_of kept_by history_of spared_core spared_by is same some runs run keeps limit spared silent =
      leaves_run (end_of r) (kept_by r) (history_of r) is same some (core_of r, runs) run keeps limit
  leaves_by N still (Err s) end_of core_of kept_by history_of spared_core spared_by is same none runs run keeps limit spared silent =
      leaves_none is none silent.1 (same ∙ spared.1) (still silent.0)

module _ {K : Type 0}
    (held_by : K → Option Held) (saves_of : K → Option (List ℕ)) (faults_of : K → ℕ)
    (load_gives : K → ℕ → K → Type 0) (save_gives : K → ℕ → Bool → K → Type 0)
    (may_give : ℕ → Bool) (links : Offers) (outside : Between)
    (old loaded new : K) (end : Status) (s : Settings) (moment kept : ℕ) where
  -- a node that ran over the core of these settings ran by them
  pub ran_by : (core : Core) (task : Task) (journal : Option (List Entry)) → core ≡ opening_core s moment kept
      → task ≡ task_of s moment → AreEverKeyed (rolls_of s) s.publishing core
      → Loads held_by saves_of faults_of load_gives save_gives old kept loaded
      → IfSome journal (λ history. Goes held_by saves_of faults_of save_gives
      core task may_give links outside loaded new end history)
      → IfSome journal (λ history. HasRun held_by saves_of faults_of load_gives save_gives
      s moment may_give links outside old new end history)
  ran_by core task journal opened tasked ever loads = some_both journal (λ history goes.
      let legal = subst (λ (c : Core). IsLegal Leads c history) opened goes.legal in
      record {
        kept = kept;
        loaded = loaded;
        loads = loads;
        goes = subst
            (λ (t : Task). Goes held_by saves_of faults_of save_gives
            (opening_core s moment kept) t may_give links outside loaded new end history)
            tasked
            (subst
            (λ (c : Core). Goes held_by saves_of faults_of save_gives
            c task may_give links outside loaded new end history)
            opened goes);
        set = are_set (rolls_of s) s.publishing (opening_core s moment kept) history
            (subst (λ (c : Core). AreEverKeyed (rolls_of s) s.publishing c) opened ever) legal;
      })
