-- What stands in the file of a journal.
use Rattle.std.proofs.Common.{◌≡◌, ◌⊎◌, ℕ, Bool, true, false, List, Option, Some, None, Result, Ok, Err, IfSome, IfOk, OnErr, MatchResult, option_map, refl, sym, ap, ◌∙◌, subst, inl, inr}
use Rattle.std.specs.Prelude.{is_some}
use Rattle.xl_store.specs.declared.entry.Entry.{Entry}
use Rattle.xl_store.specs.declared.retention.Batch.{Batch}
use Rattle.xl_store.specs.declared.retention.Retention.{Retention}
use Rattle.xl_store.specs.declared.retention.Retention.TheVariants.{Passing, Whole}
use Rattle.xl_store.specs.Recording.{RecordsIf, all_batches}
use Rattle.xl_store.specs.Retentions.{left_of}
use Rattle.xl_recorder.specs.declared.file_recorder.FileRecorder.{FileRecorder}
use Rattle.xl_recorder.specs.Recorders.{Takes, seen}
use Rattle.xl_recorder.proofs.Handing.{is_recorded}
use Rattle.xl_settings.specs.declared.refusal.SettingsRefusal.{SettingsRefusal}
use Rattle.xl_settings.specs.declared.settings.Settings.{Settings}
use Rattle.xl_settings.specs.Settings.{settings_of}
use Rattle.xl_validator.specs.Following.{Begins, Follows, HasFile, HasNoFile, IsFile, RecordsLeft, Writes, opened_by, retention_by}
use Rattle.xl_validator.proofs.Refusing.{some_any, some_map}
use Rattle.xl_validator.proofs.Told.{at_any, at_ok}

-- WITHOUT A FILE

no_path : (path : Option (List ℕ)) (behind : Bool) → IfSome path (λ _. behind ≡ false) → behind ≡ true → path ≡ None
no_path None behind apart is = refl
no_path (Some p) behind apart is = let no : true ≡ false = sym is ∙ apart in cc

no_file : {S : Type 0} (held_by : S → Option (List ℕ)) (path : Option (List ℕ)) (file : Option S) → IsFile held_by path file
    → path ≡ None → file ≡ None
no_file held_by None file is none = is
no_file held_by (Some p) file is none = absurd cc

-- a recorder that there isn't isn't made by a run
none_stays : {R S T : Type 0} (records : T → Batch → T → Type 0) (retention : Retention) (ran : Result R S)
    (history_of : R → List Entry) (first mid : Option T)
    → IfOk ran (λ r. RecordsIf records (all_batches retention (history_of r)) first mid) → OnErr ran (mid ≡ first)
    → first ≡ None → mid ≡ None
none_stays records retention (Ok r) history_of None mid recorded same is = recorded
none_stays records retention (Ok r) history_of (Some a) mid recorded same is = absurd cc
none_stays records retention (Err e) history_of first mid recorded same is = same ∙ is

-- WHAT WAS KEPT

-- if a journal is written behind its run, all its entries were kept, and no recorder took them
pub kept_there : {R S : Type 0} (ran : Result R S) (left_in : R → Option Batch) (history_of : R → List Entry)
    (left : Option Batch) (entries journal : Option (List Entry)) (retention : Retention)
    → MatchResult ran (λ r. left ≡ left_in r) (λ _. left ≡ None)
    → MatchResult ran (λ r. journal ≡ Some (history_of r)) (λ _. journal ≡ None)
    → IfOk ran (λ r. left_in r ≡ left_of retention (history_of r))
    → retention ≡ Whole → entries ≡ option_map (λ (b : Batch). b.entries) left → entries ≡ journal
kept_there (Ok r) left_in history_of left entries journal retention is handed kept whole of_left =
    of_left
    ∙ ap (λ (b : Option Batch). option_map (λ (x : Batch). x.entries) b)
    (is ∙ kept ∙ ap (λ (k : Retention). left_of k (history_of r)) whole)
    ∙ sym handed
kept_there (Err s) left_in history_of left entries journal retention is handed kept whole of_left =
    of_left ∙ ap (λ (b : Option Batch). option_map (λ (x : Batch). x.entries) b) is ∙ sym handed

module _ {S : Type 0} (held_by : S → Option (List ℕ)) (faults_of : S → ℕ) (s : Settings) (moment kept : ℕ) where
  abbrev pub TakesSo : FileRecorder S → Batch → FileRecorder S → Type 0
  TakesSo a batch b = Takes (seen held_by faults_of a) batch (seen held_by faults_of b)

  begins_none : (file : Option S) (first : Option (FileRecorder S)) → Begins held_by faults_of s moment kept file first
      → file ≡ None → first ≡ None
  begins_none None first begins is = begins
  begins_none (Some sink) first begins is = absurd cc

  -- beside a journal that is written behind the run there is no recorder
  pub no_recorder : {R T : Type 0} (ran : Result R T) (history_of : R → List Entry) (retention : Retention)
      (file : Option S) (first mid : Option (FileRecorder S))
      → IsFile held_by s.journal_file file → IfSome s.journal_file (λ _. s.journal ≡ false) → s.journal ≡ true
      → Begins held_by faults_of s moment kept file first
      → IfOk ran (λ r. RecordsIf TakesSo (all_batches retention (history_of r)) first mid) → OnErr ran (mid ≡ first)
      → mid ≡ None
  no_recorder ran history_of retention file first mid opened apart behind begins recorded same =
      none_stays TakesSo retention ran history_of first mid recorded same
      (begins_none file first begins
      (no_file held_by s.journal_file file opened (no_path s.journal_file s.journal apart behind)))

  -- no store was opened
  pub follows_first : (file : Option S) (first : Option (FileRecorder S)) (journal : Option (List Entry))
      → Begins held_by faults_of s moment kept file first → journal ≡ None
      → Follows held_by faults_of s moment journal file first
  follows_first None first journal begins none = begins
  follows_first (Some sink) None journal begins none = absurd begins
  follows_first (Some sink) (Some a) journal begins none =
      subst (λ (j : Option (List Entry)). Follows held_by faults_of s moment j (Some sink) (Some a)) (sym none)
      (kept, begins)

  -- one was
  follows_run : (sink : S) (first mid last : Option (FileRecorder S)) (history : List Entry)
      → Begins held_by faults_of s moment kept (Some sink) first
      → RecordsIf TakesSo (all_batches Passing history) first mid
      → RecordsLeft TakesSo (left_of Passing history) mid last
      → Follows held_by faults_of s moment (Some history) (Some sink) last
  follows_run sink None mid last history begins recorded left = absurd begins
  follows_run sink (Some a) None last history begins recorded left = absurd recorded
  follows_run sink (Some a) (Some b) None history begins recorded left = absurd left
  follows_run sink (Some a) (Some b) (Some c) history begins recorded left = (
    kept,
    (is_recorded (seen held_by faults_of)
        (opened_by s moment kept (held_by sink) (faults_of sink)) history a b begins recorded).1 c left,
  )

  left_none : (left : Option Batch) (mid last : Option (FileRecorder S)) → mid ≡ None → RecordsLeft TakesSo left mid last
      → last ≡ None
  left_none left None last is recorded = recorded
  left_none left (Some a) last is recorded = absurd cc

  left_same : (mid last : Option (FileRecorder S)) → RecordsLeft TakesSo None mid last → last ≡ mid
  left_same None last recorded = recorded
  left_same (Some a) last recorded = recorded

  module _ {R T : Type 0} (left_in : R → Option Batch) (history_of : R → List Entry) (retention : Retention)
      (first mid last : Option (FileRecorder S)) (left : Option Batch) (handed : Option (List Entry)) where
    by_run : (ran : Result R T) (sink : S) → retention ≡ Passing
        → Begins held_by faults_of s moment kept (Some sink) first
        → IfOk ran (λ r. RecordsIf TakesSo (all_batches retention (history_of r)) first mid) → OnErr ran (mid ≡ first)
        → MatchResult ran (λ r. left ≡ left_in r) (λ _. left ≡ None)
        → IfOk ran (λ r. left_in r ≡ left_of retention (history_of r))
        → MatchResult ran (λ r. handed ≡ Some (history_of r)) (λ _. handed ≡ None)
        → RecordsLeft TakesSo left mid last → Follows held_by faults_of s moment handed (Some sink) last
    by_run (Ok r) sink passing begins recorded same is kept_so of_history of_left =
        subst (λ (j : Option (List Entry)). Follows held_by faults_of s moment j (Some sink) last) (sym of_history)
        (follows_run sink first mid last (history_of r) begins
        (subst (λ (k : Retention). RecordsIf TakesSo (all_batches k (history_of r)) first mid) passing recorded)
        (subst (λ (l : Option Batch). RecordsLeft TakesSo l mid last)
        (is ∙ kept_so ∙ ap (λ (k : Retention). left_of k (history_of r)) passing) of_left))
    by_run (Err e) sink passing begins recorded same is kept_so of_history of_left =
        subst (λ (l : Option (FileRecorder S)). Follows held_by faults_of s moment handed (Some sink) l)
        (sym (left_same mid last (subst (λ (l : Option Batch). RecordsLeft TakesSo l mid last) is of_left) ∙ same))
        (follows_first (Some sink) first handed begins of_history)

    pub by_file : (ran : Result R T) (path : Option (List ℕ)) (behind : Bool) (file : Option S) (journal : Option (List Entry))
        → IsFile held_by path file → retention ≡ retention_by behind (is_some path) → IfSome path (λ _. behind ≡ false)
        → Begins held_by faults_of s moment kept file first
        → IfOk ran (λ r. RecordsIf TakesSo (all_batches retention (history_of r)) first mid) → OnErr ran (mid ≡ first)
        → MatchResult ran (λ r. left ≡ left_in r) (λ _. left ≡ None)
        → IfOk ran (λ r. left_in r ≡ left_of retention (history_of r))
        → MatchResult ran (λ r. handed ≡ Some (history_of r)) (λ _. handed ≡ None)
        → RecordsLeft TakesSo left mid last → (behind ≡ false → journal ≡ handed)
        → Follows held_by faults_of s moment journal file last
    by_file ran path behind None journal opened kept_as apart begins recorded same is kept_so of_history of_left back =
        left_none left mid last (none_stays TakesSo retention ran history_of first mid recorded same begins) of_left
    by_file ran None behind (Some sink) journal opened kept_as apart begins recorded same is kept_so of_history of_left
        back = absurd cc
    by_file ran (Some p) behind (Some sink) journal opened kept_as apart begins recorded same is kept_so of_history of_left
        back =
        subst (λ (j : Option (List Entry)). Follows held_by faults_of s moment j (Some sink) last) (sym (back apart))
        (by_run ran sink (kept_as ∙ ap (λ (b : Bool). retention_by b true) apart) begins recorded same is kept_so
        of_history of_left)

  -- a keeper that failed opened none
  pub follows_unread : (file : Option S) (journal : Option (List Entry)) → journal ≡ None
      → Follows held_by faults_of s moment journal file None
  follows_unread None journal none = refl
  follows_unread (Some sink) journal none = none

-- what follows is told of an equal journal and an equal recorder
pub follows_moved : {S : Type 0} (held_by : S → Option (List ℕ)) (faults_of : S → ℕ) (s : Settings) (moment : ℕ)
    (file : Option S) (journal handed : Option (List Entry)) (last left : Option (FileRecorder S))
    → handed ≡ journal → left ≡ last → Follows held_by faults_of s moment journal file last
    → Follows held_by faults_of s moment handed file left
follows_moved {S} held_by faults_of s moment file journal handed last left back same follows =
    subst (λ (j : Option (List Entry)). Follows held_by faults_of s moment j file left) (sym back)
    (subst (λ (r : Option (FileRecorder S)). Follows held_by faults_of s moment journal file r) (sym same) follows)

-- THE WHOLE COMMAND

module _ {S : Type 0} (held_by : S → Option (List ℕ)) (faults_of : S → ℕ)
    (input : Option (List ℕ)) (may_give : ℕ → Bool) (journal : Option (List Entry))
    (last : Option (FileRecorder S)) (moment : ℕ) (given : may_give moment ≡ true) where
  abbrev Has : Settings → Type 0
  Has s = HasFile held_by faults_of s moment journal last ⊎ HasNoFile held_by faults_of journal last

  abbrev HasNo : SettingsRefusal → Type 0
  HasNo why = HasNoFile held_by faults_of journal last

  pub writes_by : (s : Settings) (file : Option S) → IfSome input (λ bytes. settings_of bytes moment ≡ Ok s)
      → IsFile held_by s.journal_file file → Follows held_by faults_of s moment journal file last
      → Writes held_by faults_of input may_give journal last
  writes_by s file are opened follows = record {
    moment = moment;
    given = given;
    by = some_map input (λ bytes is. at_ok (settings_of bytes moment) s is Has HasNo
        (inl (record { file = file; opened = opened; follows = follows }))) are;
  }

  pub writes_none : last ≡ None → journal ≡ None → Writes held_by faults_of input may_give journal last
  writes_none none unopened = record {
    moment = moment;
    given = given;
    by = some_any input (λ bytes. at_any (settings_of bytes moment) Has HasNo
        (λ s. inr (none, unopened)) (λ why. (none, unopened)));
  }
