-- What a whole run of the command comes to, by how its settings were read.
use Rattle.std.proofs.Common.{◌≡◌, ◌≢◌, ℕ, Bool, true, false, List, [], Option, Some, None, Result, Ok, Err, IfSome, inl, inr, refl, sym, ap, subst, ⊎_elim}
use Rattle.std.specs.Prelude.{◌⊎◌, IfOk, IfErr, IsErr}
use Rattle.xl_base.specs.declared.status.Status.{Status}
use Rattle.xl_base.specs.declared.status.Status.TheVariants as status
use Rattle.xl_io.specs.Keepers.{Held}
use Rattle.xl_io.specs.Sinks.{GrewByFront}
use Rattle.xl_io.proofs.Growing.{append_known-none}
use Rattle.xl_links.specs.Requests.{Offers}
use Rattle.xl_store.specs.declared.entry.Entry.{Entry}
use Rattle.xl_settings.specs.declared.fault.SettingsFault.{SettingsFault}
use Rattle.xl_settings.specs.declared.fault.SettingsFault.TheVariants.{Refused}
use Rattle.xl_settings.specs.declared.refusal.SettingsRefusal.{SettingsRefusal}
use Rattle.xl_settings.specs.declared.settings.Settings.{Settings}
use Rattle.xl_settings.specs.Answers.{GivenBytes}
use Rattle.xl_settings.specs.Lines.{refusal_line}
use Rattle.xl_settings.specs.Settings.{settings_of}
use Rattle.xl_validator.specs.Recordings.{is_written}
use Rattle.xl_validator.specs.Validators.{Between, HasRecorded, HasRun, IsOfNode, IsRefused, IsUnopened, Judges}

front_none : (held : Option (List ℕ)) (text : List ℕ) → GrewByFront held held text
front_none held text = record { written = []; missing = text; parts = refl; held = sym (append_known-none held) }

-- settings that aren't refused
module _ (r : Result Settings SettingsRefusal) (s : Settings) (is : r ≡ Ok s) where
  ok_then : (P : Settings → Type 0) → P s → IfOk r P
  ok_then P p = subst (λ (x : Result Settings SettingsRefusal). IfOk x P) (sym is) p

  no_err : (Q : SettingsRefusal → Type 0) → IfErr r Q
  no_err Q = subst (λ (x : Result Settings SettingsRefusal). IfErr x Q) (sym is) tt

-- settings that are refused
module _ (r : Result Settings SettingsRefusal) (why : SettingsRefusal) (is : r ≡ Err why) where
  err_then : (Q : SettingsRefusal → Type 0) → Q why → IfErr r Q
  err_then Q q = subst (λ (x : Result Settings SettingsRefusal). IfErr x Q) (sym is) q

  no_ok : (P : Settings → Type 0) → IfOk r P
  no_ok P = subst (λ (x : Result Settings SettingsRefusal). IfOk x P) (sym is) tt

  is_err : IsErr r
  is_err = subst (λ (x : Result Settings SettingsRefusal). IsErr x) (sym is) refl

-- whatever they are
any_err : {Q : SettingsRefusal → Type 0} (r : Result Settings SettingsRefusal) → ((why : SettingsRefusal) → Q why)
    → IfErr r Q
any_err (Ok s) q = tt
any_err (Err why) q = q why

any_ok : {P : Settings → Type 0} (r : Result Settings SettingsRefusal) → ((s : Settings) → P s) → IfOk r P
any_ok (Ok s) p = p s
any_ok (Err why) p = tt

pub some_map : {A : Type 0} {P Q : A → Type 0} (o : Option A) → ((x : A) → P x → Q x) → IfSome o P → IfSome o Q
some_map None f p = tt
some_map (Some x) f p = f x p

pub some_any : {A : Type 0} {P : A → Type 0} (o : Option A) → ((x : A) → P x) → IfSome o P
some_any None p = tt
some_any (Some x) p = p x

no_run : (P : List Entry → Type 0) (journal : Option (List Entry)) → journal ≡ None → IfSome journal P
no_run P journal none = subst (λ (j : Option (List Entry)). IfSome j P) (sym none) tt

not_refused : (end : Status) → IsOfNode end → end ≢ status.InputRefused
not_refused end known is = subst IsOfNode is known

not_unread : (end : Status) → IsOfNode end → (end ≡ status.InputRefused) ⊎ (end ≡ status.ReadFault) → ⊥
not_unread end known (inl is) = subst IsOfNode is known
not_unread end known (inr is) = subst IsOfNode is known

module _ {K O : Type 0}
    (held_by : K → Option Held) (saves_of : K → Option (List ℕ)) (faults_of : K → ℕ)
    (load_gives : K → ℕ → K → Type 0) (save_gives : K → ℕ → Bool → K → Type 0)
    (input : Option (List ℕ)) (may_give : ℕ → Bool) (links : Offers) (outside : Between)
    (old_output new_output : O) (old new : K) (end : Status) (journal : Option (List Entry))
    (moment : ℕ) (given : may_give moment ≡ true) where
  abbrev pub AreJudged : Type 0
  AreJudged = Judges held_by saves_of faults_of load_gives save_gives input may_give links outside
      old_output new_output old new end journal

  -- the settings are those, and a node ran by them, or nothing was written
  pub judged_right : (s : Settings) → IfSome input (λ bytes. settings_of bytes moment ≡ Ok s)
      → IfSome journal (λ history. (is_written s.journal end ≡ false)
      × HasRun held_by saves_of faults_of load_gives save_gives s moment may_give links outside old new end history)
      → (journal ≡ None → (IsUnopened end × (saves_of new ≡ saves_of old) × (outside.new_hub ≡ outside.old_hub)
      × (new_output ≡ old_output))
      ⊎ HasRecorded held_by saves_of faults_of load_gives save_gives s moment may_give links outside old new end)
      → IsOfNode end → AreJudged
  judged_right s are ran unopened known = record {
    moment = moment;
    given = given;
    refused = some_map input (λ bytes is. no_err (settings_of bytes moment) s is _) are;
    told = λ is. absurd (not_refused end known is);
    untouched = λ is. absurd (not_unread end known is);
    ran = some_map journal (λ history run. (s, are, run.0, run.1)) ran;
    unopened = λ none. ⊎_elim
        (λ nothing. inl (
          nothing.0,
          nothing.1,
          nothing.2,
          some_map input (λ bytes is. ok_then (settings_of bytes moment) s is (λ _. new_output ≡ old_output) nothing.3) are,
        ))
        (λ recorded. inr (s, are, recorded))
        (unopened none);
  }

  -- they are refused, and their line was told
  pub judged_refused : (fault : SettingsFault) (why : SettingsRefusal) (told : Status) → fault ≡ Refused why
      → IfSome input (λ bytes. GivenBytes (Err fault) (settings_of bytes moment))
      → journal ≡ None → end ≡ told → (told ≡ status.InputRefused) ⊎ (told ≡ status.WriteFault)
      → IsRefused (refusal_line why) told outside.old_output.held outside.new_output.held → new ≡ old
      → outside.new_hub ≡ outside.old_hub → AreJudged
  judged_refused fault why told is given_by none same known line kept still =
      let are : IfSome input (λ bytes. settings_of bytes moment ≡ Err why) =
      subst (λ (f : SettingsFault). IfSome input (λ bytes. GivenBytes (Err f) (settings_of bytes moment))) is given_by in
      let line' : IsRefused (refusal_line why) end outside.old_output.held outside.new_output.held =
      subst (λ (t : Status). IsRefused (refusal_line why) t outside.old_output.held outside.new_output.held)
      (sym same) line in
      record {
        moment = moment;
        given = given;
        refused = some_map input (λ bytes e. err_then (settings_of bytes moment) why e _ (none, (kept, still), line')) are;
        untouched = λ _. (kept, still);
        told = λ told. some_map input (λ bytes e. is_err (settings_of bytes moment) why e) are;
        ran = no_run _ journal none;
        unopened = λ _. inl (
          subst IsUnopened (sym same) (⊎_elim (λ e. subst IsUnopened (sym e) tt) (λ e. subst IsUnopened (sym e) tt) known),
          ap saves_of kept,
          still,
          some_map input (λ bytes e. no_ok (settings_of bytes moment) why e (λ _. new_output ≡ old_output)) are,
        );
      }

  -- they weren't read, and nothing was written
  pub judged_unread : journal ≡ None → IsUnopened end → end ≢ status.InputRefused
      → outside.new_output.held ≡ outside.old_output.held → new_output ≡ old_output → new ≡ old
      → outside.new_hub ≡ outside.old_hub → AreJudged
  judged_unread none known other held same kept still = record {
    moment = moment;
    given = given;
    refused = some_any input (λ bytes. any_err (settings_of bytes moment) (λ why. (
      none,
      (kept, still),
      record {
        front = subst (λ now. GrewByFront outside.old_output.held now (refusal_line why)) (sym held)
            (front_none outside.old_output.held (refusal_line why));
        whole = λ is. absurd (other is);
      },
    )));
    told = λ is. absurd (other is);
    untouched = λ _. (kept, still);
    ran = no_run _ journal none;
    unopened = λ _. inl (known, ap saves_of kept, still, some_any input (λ bytes. any_ok (settings_of bytes moment) (λ s. same)));
  }

-- what holds of a keeper and a journal holds of equal ones
pub judged_moved : {K O : Type 0}
    (held_by : K → Option Held) (saves_of : K → Option (List ℕ)) (faults_of : K → ℕ)
    (load_gives : K → ℕ → K → Type 0) (save_gives : K → ℕ → Bool → K → Type 0)
    (input : Option (List ℕ)) (may_give : ℕ → Bool) (links : Offers) (outside : Between)
    (old_output new_output : O) (old : K) (end : Status) (new other : K) (journal handed : Option (List Entry))
    → other ≡ new → handed ≡ journal
    → Judges held_by saves_of faults_of load_gives save_gives input may_give links outside old_output new_output old new end journal
    → Judges held_by saves_of faults_of load_gives save_gives input may_give links outside old_output new_output old other end handed
judged_moved {K} held_by saves_of faults_of load_gives save_gives input may_give links outside old_output new_output old end new
    other journal handed kept back judged =
    subst (λ (k : K). Judges held_by saves_of faults_of load_gives save_gives input may_give links outside
    old_output new_output old k end handed) (sym kept)
    (subst (λ (j : Option (List Entry)). Judges held_by saves_of faults_of load_gives save_gives input may_give links outside
    old_output new_output old new end j) (sym back) judged)
