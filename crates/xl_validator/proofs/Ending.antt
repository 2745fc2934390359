-- What the status of a node says of its history.
use Rattle.std.proofs.Common.{◌≡◌, ◌≢◌, ◌<◌, ◌≤◌, ◌+◌, ◌⊎◌, Bool, true, ℕ, List, length, map, Option, Some, None, Result, Ok, IfSome, inl, inr, refl, sym, ap, ◌∙◌, subst, arith, ⊎_elim}
use Rattle.std.specs.Prelude.{slice_get, IsOk}
use Rattle.std.proofs.lemmas.Bool.Decides.{nat_tests}
use Rattle.xl_base.specs.declared.ids.TxId.{TxId}
use Rattle.xl_base.specs.declared.status.Status.{Status}
use Rattle.xl_base.specs.declared.status.Status.TheVariants as status
use Rattle.xl_io.specs.Keepers.{Held}
use Rattle.xl_links.specs.Requests.{Offers}
use Rattle.xl_turns.specs.Places.{all_below}
use Rattle.xl_core.specs.declared.timer_answer.TimerAnswer.{TimerAnswer}
use Rattle.xl_store.specs.declared.entry.Entry.{Entry}
use Rattle.xl_store.specs.Calls.{Call, calls_of}
use Rattle.xl_store.proofs.Journals.{length_calls}
use Rattle.xl_heartbeat.specs.declared.ends.Ending.{Ending}
use Rattle.xl_heartbeat.specs.declared.ends.Ending.TheVariants as ending
use Rattle.xl_heartbeat.specs.declared.ends.Stopping.{Stopping}
use Rattle.xl_heartbeat.specs.declared.ends.Stopping.TheVariants as stopping
use Rattle.xl_heartbeat.specs.declared.timing.Timing.{Timing}
use Rattle.xl_heartbeat.specs.Outputs.{Output}
use Rattle.xl_heartbeat.specs.Beats.{timer, is_over, IsFull, IsStop}
use Rattle.xl_heartbeat.specs.Beats as beats
use Rattle.xl_heartbeat.specs.Statuses.{causes_of, first_of}
use Rattle.xl_settings.specs.declared.refusal.SettingsRefusal.{SettingsRefusal}
use Rattle.xl_settings.specs.declared.settings.Settings.{Settings}
use Rattle.xl_settings.specs.Settings.{settings_of}
use Rattle.xl_workers.specs.declared.ends.RunEnd.{RunEnd}
use Rattle.xl_workers.specs.declared.ends.RunEnd.TheVariants as ends
use Rattle.xl_workers.specs.Linking.{member_in}
use Rattle.xl_workers.specs.Pairing.{Paired}
use Rattle.xl_workers.specs.Submits.{IsSubmit}
use Rattle.xl_workers.specs.Runs.{Doing, NodeRun, EndsBy, EndsUnmade, status_of_end}
use Rattle.xl_workers.specs.Sharing.{Setting, SubmitPart}
use Rattle.xl_validator.specs.Ends.{AreBeats, HasBeats, CompletesAt, EndsByTime, EndsFull, AreSubmits, HasRunSo}
use Rattle.xl_validator.specs.Openings.{opening_core}
use Rattle.xl_validator.specs.Recordings.{IsWritten}
use Rattle.xl_validator.specs.Validators.{Between, HasRun, IsKnown, IsOfNode, IsUnopened, Judges}
use Rattle.xl_validator.proofs.Causes.{never_net}
use Rattle.xl_validator.proofs.Timers.{IsLastAt, all_at}
use Rattle.xl_validator.proofs.Beating.{IsOther, over_at, last_timer, beats_of, no_beats}

-- STATUSES

pub node_known : (end : Status) → IsOfNode end → IsKnown end
node_known status.Fork is = is
node_known status.WordsRefused is = is
node_known other is = tt

-- one of those that end refused settings
abbrev pub IsOfRefusal : Status → Type 0
IsOfRefusal status.InputRefused = Unit {0}
IsOfRefusal status.WriteFault = Unit {0}
IsOfRefusal other = ⊥

pub of_refusal : (end told : Status) → end ≡ told → (told ≡ status.InputRefused) ⊎ (told ≡ status.WriteFault)
    → IsOfRefusal end
of_refusal end told same (inl is) = subst IsOfRefusal (sym (same ∙ is)) tt
of_refusal end told same (inr is) = subst IsOfRefusal (sym (same ∙ is)) tt

pub refusal_known : (end : Status) → IsOfRefusal end → IsKnown end
refusal_known status.InputRefused is = tt
refusal_known status.WriteFault is = tt
refusal_known other is = absurd is

-- OF A RUN

-- it is done only if its heartbeat is
beats_done : (run last : Ending) (stop : Stopping)
    → first_of (causes_of run stop last) ≡ status.Done → run ≡ ending.Done
beats_done ending.Done last stop is = refl
beats_done run ending.WriteFault stop is = absurd cc
beats_done run last stop is = absurd cc

-- it is full only if one of its parts is
full_by : (turns n : ℕ) (calls : List Call) (phase : beats.Phase) (run last : Ending) (stop : Stopping)
    → beats.IsReason turns calls phase n run → IsStop turns n stop → IsFull turns n last
    → first_of (causes_of run stop last) ≡ status.StoreFull → n ≡ turns
full_by turns n calls phase (ending.StoreFull k) last stop reason stops full is = reason.2
full_by turns n calls phase ending.Done last (stopping.StoreFull k) reason stops full is = stops.1
full_by turns n calls phase run (ending.StoreFull k) stop reason stops full is = full.1
full_by turns n calls phase run last stop reason stops full is = absurd cc

-- the moment at which a run is over
bounded : (timing : Timing) (now : ℕ) → is_over timing now ≡ true → (0 < timing.run) × (timing.opened + timing.run ≤ now)
bounded timing now is = (grind (arith, nat_tests, is), grind (arith, nat_tests, is))

module _ (s : Setting) (d : Doing) (history : List Entry) where
  abbrev H : List Call
  H = calls_of s.start history

  -- the run was over at the last timer
  pub record IsTimed : Type 0 where
    pub now : ℕ
    pub beat : TimerAnswer
    pub over : is_over d.pulse.timing now ≡ true
    pub last : IsLastAt IsOther H (timer now beat)

  timed : (done : List TxId) (submits : List ℕ) (e : RunEnd) → SubmitPart s history done submits
      → EndsBy s d history done submits e → status_of_end e ≡ status.Done → IsTimed
  timed done submits (ends.Ran ended last) sub by is =
      let out = by.1 in
      let reason = subst
      (λ (run : Ending). beats.IsReason s.turns out.calls out.beating.phase (length history) run)
      (beats_done ended.run last ended.stop is) out.beating.reason in
      let o = over_at s.may_give d.pulse out.calls out.beating.phase out.beating.run reason in
      record {
        now = o.now;
        beat = o.beat;
        over = o.over;
        last = last_timer s d.pulse d.door (map member_in d.targets) history done submits ended last d.old_output d.new_output sub out o;
      }
  timed done submits other sub by is = absurd cc

  pub run_timed : (e : RunEnd) → NodeRun s d e history → status_of_end e ≡ status.Done → IsTimed
  run_timed e run is = timed run.done run.submits e run.submitting run.by is

  full : (done : List TxId) (submits : List ℕ) (e : RunEnd) → EndsBy s d history done submits e
      → status_of_end e ≡ status.StoreFull → length history ≡ s.turns
  full done submits (ends.Ran ended last) by is =
      let out = by.1 in
      full_by s.turns (length history) out.calls out.beating.phase ended.run last ended.stop out.beating.reason
      out.beating.stopped out.ending.full is
  full done submits (ends.StoreFull n) by is = by.3
  full done submits other by is = absurd cc

  pub run_full : (e : RunEnd) → NodeRun s d e history → status_of_end e ≡ status.StoreFull → length H ≡ s.turns
  run_full e run is = length_calls s.start history ∙ full run.done run.submits e run.by is

  of_all : (done : List TxId) (submits : List ℕ) → SubmitPart s history done submits → EndsUnmade d history done submits
      → Paired (IsSubmit s.may_give) d.ids H
  of_all done submits sub by =
      let long : length history ≡ length H = sym (length_calls s.start history) in
      let places = subst (λ (l : List ℕ). map (slice_get H) l ≡ map Some sub.calls)
      (by.1.all ∙ ap all_below long) sub.stand.at in
      subst (λ (cs : List Call). Paired (IsSubmit s.may_give) d.ids cs) (all_at H sub.calls places)
      (subst (λ (ids : List TxId). Paired (IsSubmit s.may_give) ids sub.calls) by.0 sub.each)

  submits_alone : (done : List TxId) (submits : List ℕ) (e : RunEnd) → SubmitPart s history done submits
      → EndsBy s d history done submits e → status_of_end e ≡ status.NetFault → Paired (IsSubmit s.may_give) d.ids H
  submits_alone done submits (ends.Ran ended last) sub by is = absurd (never_net ended last is)
  submits_alone done submits (ends.LinkFault member) sub by is = of_all done submits sub by
  submits_alone done submits ends.DoorFault sub by is = of_all done submits sub by
  submits_alone done submits other sub by is = absurd cc

  pub run_submits : (e : RunEnd) → NodeRun s d e history → status_of_end e ≡ status.NetFault
      → Paired (IsSubmit s.may_give) d.ids H
  run_submits e run is = submits_alone run.done run.submits e run.submitting run.by is

  beaten : (done : List TxId) (submits : List ℕ) (e : RunEnd) → SubmitPart s history done submits
      → EndsBy s d history done submits e → AreBeats d.pulse.rolls d.pulse.publishing H
  beaten done submits (ends.Ran ended last) sub by =
      beats_of s d.pulse d.door (map member_in d.targets) history done submits ended last d.old_output d.new_output sub by.1
  beaten done submits other sub by = no_beats s d.pulse history done submits sub by.1.all

  pub run_beaten : (e : RunEnd) → NodeRun s d e history → AreBeats d.pulse.rolls d.pulse.publishing H
  run_beaten e run = beaten run.done run.submits e run.submitting run.by

-- of a node by its settings
module _ {K : Type 0}
    (held_by : K → Option Held) (saves_of : K → Option (List ℕ)) (faults_of : K → ℕ)
    (load_gives : K → ℕ → K → Type 0) (save_gives : K → ℕ → Bool → K → Type 0)
    (may_give : ℕ → Bool) (links : Offers) (old new : K)
    (s : Settings) (moment : ℕ) (between : Between) (ended : Status) (history : List Entry)
    (run : HasRun held_by saves_of faults_of load_gives save_gives s moment may_give links between old new ended history) where
  abbrev made : List Call
  made = calls_of (opening_core s moment run.kept) history

  -- status 0
  pub by_time : ended ≡ status.Done → EndsByTime s moment made
  by_time is =
      let t = run_timed _ _ history run.goes.run_end run.goes.run (sym run.goes.is ∙ is) in
      let bounds = bounded (record { opened = moment; every = s.heartbeat_ms; run = s.run_ms }) t.now t.over in
      record {
        earlier = t.last.earlier;
        now = t.now;
        beat = t.beat;
        later = t.last.later;
        parts = t.last.parts;
        last = t.last.last;
        bounded = bounds.0;
        reached = bounds.1;
      }

  -- status 9
  pub by_full : ended ≡ status.StoreFull → EndsFull s moment made
  by_full is = run_full _ _ history run.goes.run_end run.goes.run (sym run.goes.is ∙ is)

  -- status 8
  pub by_submits : ended ≡ status.NetFault → AreSubmits may_give s moment made
  by_submits is = run_submits _ _ history run.goes.run_end run.goes.run (sym run.goes.is ∙ is)

  -- the heartbeat
  pub by_beats : HasBeats s moment made
  by_beats = run_beaten _ _ history run.goes.run_end run.goes.run

-- OF THE COMMAND

module _ {K O : Type 0}
    (held_by : K → Option Held) (saves_of : K → Option (List ℕ)) (faults_of : K → ℕ)
    (load_gives : K → ℕ → K → Type 0) (save_gives : K → ℕ → Bool → K → Type 0)
    (input : Option (List ℕ)) (may_give : ℕ → Bool) (links : Offers) (outside : Between)
    (old_output new_output : O) (old new : K) where
  -- by the run of a node with this status
  abbrev Ran : Settings → ℕ → Between → Status → List Entry → Type 0
  Ran s moment between ended history =
      HasRun held_by saves_of faults_of load_gives save_gives s moment may_give links between old new ended history

  abbrev AreJudged : Status → Option (List Entry) → Type 0
  AreJudged end journal = Judges held_by saves_of faults_of load_gives save_gives input may_give links outside
      old_output new_output old new end journal

  -- a journal that is handed back is of a node that ran
  of_journal : (Holds : Settings → ℕ → List Call → Type 0) (end : Status) (history : List Entry)
      (j : AreJudged end (Some history))
      → Holds j.ran.0 j.moment (calls_of (opening_core j.ran.0 j.moment j.ran.3.kept) history)
      → HasRunSo Holds input may_give (Some history)
  of_journal Holds end history j holds = record {
    settings = j.ran.0;
    moment = j.moment;
    kept = j.ran.3.kept;
    history = history;
    given = j.given;
    read = j.ran.1;
    handed = refl;
    holds = holds;
  }

  module _ (Holds : Settings → ℕ → List Call → Type 0) (wanted : Status)
      (opens : IsUnopened wanted → ⊥)
      (writes : (text : List ℕ) (ended : Status) (before after : Output) → IsWritten text ended wanted before after
      → wanted ≡ ended)
      (holds : (s : Settings) (moment : ℕ) (between : Between) (history : List Entry)
      (run : Ran s moment between wanted history)
      → Holds s moment (calls_of (opening_core s moment run.kept) history)) where
    ran_so : (journal : Option (List Entry)) → AreJudged wanted journal → HasRunSo Holds input may_give journal
    ran_so (Some history) j = of_journal Holds wanted history j (holds j.ran.0 j.moment outside history j.ran.3)
    ran_so None j = ⊎_elim
        (λ unopened. absurd (opens unopened.0))
        (λ recorded.
        let s = recorded.0 in
        let r = recorded.2 in
        let same = writes _ r.ended r.reported outside.new_output r.text in
        let run = subst (λ (e : Status). Ran s j.moment (record outside { new_output = r.reported }) e r.history)
        (sym same) r.run in
        record {
          settings = s;
          moment = j.moment;
          kept = run.kept;
          history = r.history;
          given = j.given;
          read = recorded.1;
          handed = tt;
          holds = holds s j.moment (record outside { new_output = r.reported }) r.history run;
        })
        (j.unopened refl)

  at_status : (Holds : Settings → ℕ → List Call → Type 0) (wanted end : Status) (journal : Option (List Entry))
      → ((j : Option (List Entry)) → AreJudged wanted j → HasRunSo Holds input may_give j)
      → AreJudged end journal
      → end ≡ wanted → HasRunSo Holds input may_give journal
  at_status Holds wanted end journal so judged is = so journal (subst (λ (e : Status). AreJudged e journal) is judged)

  -- status 0
  pub done_by_time : {end : Status} {journal : Option (List Entry)} → AreJudged end journal → end ≡ status.Done
      → HasRunSo EndsByTime input may_give journal
  done_by_time {end} {journal} judged is = at_status EndsByTime status.Done end journal
      (ran_so EndsByTime status.Done (λ no. no) (λ text ended before after w. w.0)
      (λ s moment between history run. by_time held_by saves_of faults_of load_gives save_gives may_give links old new s moment
      between status.Done history run refl)) judged is

  -- status 9
  pub full_at_end : {end : Status} {journal : Option (List Entry)} → AreJudged end journal → end ≡ status.StoreFull
      → HasRunSo EndsFull input may_give journal
  full_at_end {end} {journal} judged is = at_status EndsFull status.StoreFull end journal
      (ran_so EndsFull status.StoreFull (λ no. no) (λ text ended before after w. w.0)
      (λ s moment between history run. by_full held_by saves_of faults_of load_gives save_gives may_give links old new s moment
      between status.StoreFull history run refl)) judged is

  -- status 8
  pub submits_at_end : {end : Status} {journal : Option (List Entry)} → AreJudged end journal → end ≡ status.NetFault
      → HasRunSo (AreSubmits may_give) input may_give journal
  submits_at_end {end} {journal} judged is = at_status (AreSubmits may_give) status.NetFault end journal
      (ran_so (AreSubmits may_give) status.NetFault (λ no. no) (λ text ended before after w. w.0)
      (λ s moment between history run. by_submits held_by saves_of faults_of load_gives save_gives may_give links old new s moment
      between status.NetFault history run refl)) judged is

  -- the heartbeat
  pub has_beats : {end : Status} (journal : Option (List Entry)) → AreJudged end journal
      → IfSome journal (λ _. HasRunSo HasBeats input may_give journal)
  has_beats {end} None j = tt
  has_beats {end} (Some history) j =
      of_journal HasBeats end history j
      (by_beats held_by saves_of faults_of load_gives save_gives may_give links old new j.ran.0 j.moment outside end history
      j.ran.3)

  -- COMPLETENESS

  some_ok : (moment : ℕ) (s : Settings) (source : Option (List ℕ))
      → IfSome source (λ bytes. settings_of bytes moment ≡ Ok s)
      → IfSome source (λ bytes. IsOk (settings_of bytes moment))
  some_ok moment s None is = tt
  some_ok moment s (Some bytes) is =
      subst (λ (r : Result Settings SettingsRefusal). IsOk r) (sym is) refl

  completes : {journal : Option (List Entry)} (end : Status) → AreJudged end journal → IsKnown end
      → end ≢ status.ReadFault → end ≢ status.WriteFault → end ≢ status.KeepFault → end ≢ status.NetFault
      → end ≢ status.StoreFull
      → CompletesAt input may_give end
  completes {journal} status.Done j known read write keep net full =
      let run = done_by_time {end = status.Done} {journal = journal} j refl in
      (run.moment, run.given, some_ok run.moment run.settings input run.read)
  completes status.InputRefused j known read write keep net full = (j.moment, j.given, j.told refl)
  completes status.OutOfMemory j known read write keep net full = (j.moment, j.given, tt)
  completes status.Fork j known read write keep net full = absurd known
  completes status.WordsRefused j known read write keep net full = absurd known
  completes status.ReadFault j known read write keep net full = absurd (read refl)
  completes status.WriteFault j known read write keep net full = absurd (write refl)
  completes status.KeepFault j known read write keep net full = absurd (keep refl)
  completes status.NetFault j known read write keep net full = absurd (net refl)
  completes status.StoreFull j known read write keep net full = absurd (full refl)

  pub is_complete : {end : Status} {journal : Option (List Entry)} → AreJudged end journal → IsKnown end
      → {A B C D : Type 0}
      → (end ≡ status.ReadFault → A) → (end ≡ status.WriteFault → B) → (end ≡ status.KeepFault → C)
      → (end ≡ status.NetFault → D)
      → (A → ⊥) → (B → ⊥) → (C → ⊥) → (D → ⊥) → end ≢ status.StoreFull
      → CompletesAt input may_give end
  is_complete {end} {journal} judged known read write keep net no_read no_write no_keep no_net full =
      completes {journal = journal} end judged known (λ is. no_read (read is)) (λ is. no_write (write is))
      (λ is. no_keep (keep is)) (λ is. no_net (net is)) full
