-- A heartbeat goes on by one call.
use Rattle.std.proofs.Common.{◌≡◌, ◌<◌, ◌≤◌, Bool, true, false, ◌++◌, ◌∷◌, ℕ, List, [], length, take, Option, Some, None, refl, sym, ap, ◌∙◌, append-nil, subst, arith}
use Rattle.std.specs.Prelude.{drop}
use Rattle.std.specs.List.{flat_map}
use Rattle.std.proofs.lemmas.Grind.{flat_map-append}
use Rattle.std.proofs.Math.Seq.{take-append_seam}
use Rattle.xl_lists.specs.Lists.{TrustedList}
use Rattle.xl_turns.specs.declared.view.Knowledge.{Knowledge}
use Rattle.xl_turns.specs.declared.pass.Pass.{Pass}
use Rattle.xl_turns.specs.Passes.{known}
use Rattle.xl_core.specs.declared.timer_answer.TimerAnswer.{TimerAnswer}
use Rattle.xl_core.specs.declared.report.Report.{Report}
use Rattle.xl_core.specs.declared.event.CoreEvent.TheVariants.{Reports, Stop, Relist}
use Rattle.xl_core.specs.declared.refusal.Refusal.{Refusal}
use Rattle.xl_core.specs.Answers as answer
use Rattle.xl_core.specs.Answers.{Done, Handed, handed_in}
use Rattle.xl_core.specs.Core.{Core}
use Rattle.xl_store.specs.declared.entry.Entry.{Entry}
use Rattle.xl_store.specs.declared.store.Store.{Store}
use Rattle.xl_store.specs.declared.store.StoreEnd.{StoreEnd}
use Rattle.xl_store.specs.declared.store.StoreEnd.TheVariants as refused
use Rattle.xl_store.specs.Calls.{Call, Made}
use Rattle.xl_store.specs.Stores.{start_of, turns_of, IsWhy, Called, HandedOut, Refused}
use Rattle.xl_store.proofs.Making.{made_none, made_both}
use Rattle.xl_status.specs.declared.look.Look.{Look}
use Rattle.xl_heartbeat.specs.declared.pulse.Pulse.{Pulse}
use Rattle.xl_heartbeat.specs.declared.standing.Standing.{Standing}
use Rattle.xl_heartbeat.specs.declared.ends.Ending.{Ending}
use Rattle.xl_heartbeat.specs.declared.ends.Ending.TheVariants as ending
use Rattle.xl_heartbeat.specs.declared.ends.Stopping.TheVariants as stopping
use Rattle.xl_heartbeat.specs.declared.ends.BeatEnd.{BeatEnd}
use Rattle.xl_heartbeat.specs.Lines.{report_line, report_lines}
use Rattle.xl_heartbeat.specs.Looks.{LooksAt, standing_of, with_set}
use Rattle.xl_heartbeat.specs.Outputs.{Output, Adds, AddsLess, IsWritten}
use Rattle.xl_heartbeat.specs.Relisting.{made_at, relist, set_after, Relists, IsOtherList}
use Rattle.xl_heartbeat.specs.Beats.{timer, reports, Phase, IsDue, after_beat, is_over, IsBeating, IsReason, Heartbeat, TakesReports, lines_of, stop_calls}
use Rattle.xl_heartbeat.specs.Rooms.{room}
use Rattle.xl_heartbeat.specs.Going.{Beating, Beaten, Follows, Relisted, Stops, ending_of, after_reports}
use Rattle.xl_heartbeat.proofs.Writing.{adds_none, adds_both, adds_then_less}

pub lines_more : (calls more : List Call) → lines_of (calls ++ more) ≡ lines_of calls ++ lines_of more
lines_more calls more =
    let f : Call → _ = λ (call : Call). handed_in call.answer in
    ap (flat_map report_line) (flat_map-append f calls more)
    ∙ flat_map-append report_line (flat_map f calls) (flat_map f more)

-- a call that had no turn leaves nothing unwritten
adds_as : (e : StoreEnd) (text : List ℕ) (old new : Output) → Adds text old new → IsWritten (ending_of e) text old new
adds_as refused.OutOfMemory text old new a = a
adds_as (refused.StoreFull n) text old new a = a

-- calls that hand out nothing
lines_same : (calls more : List Call) → lines_of more ≡ [] → lines_of (calls ++ more) ≡ lines_of calls
lines_same calls more e = lines_more calls more ∙ ap (λ t. lines_of calls ++ t) e ∙ append-nil (lines_of calls)

pub reason_later : (turns : ℕ) (calls : List Call) (phase : Phase) (mid new : ℕ) (e : Ending)
    → (mid ≡ turns → new ≡ turns) → IsReason turns calls phase mid e → IsReason turns calls phase new e
reason_later turns calls phase mid new (ending.StoreFull n) full r = (r.0, r.1, full r.2)
reason_later turns calls phase mid new other full r = r

-- a list that is asked for hands out no report
silent_call : (now : ℕ) (list : TrustedList) (refusal : Option Refusal) → lines_of (relist now list refusal ∷ []) ≡ []
silent_call now list None = refl
silent_call now list (Some why) = refl

silent : (made : Option TrustedList) (now : ℕ) (set next : TrustedList) (calls : List Call)
    → Relists made now set calls next → lines_of calls ≡ []
silent made now set next calls (Relists.stays same) = refl
silent made now set next calls (Relists.follows list refusal other) = silent_call now list refusal

module _ (start : Core) (turns : ℕ) (may : ℕ → Bool) (pulse : Pulse) (k0 : Knowledge Entry) (o0 : Output) where
  pub beating_starts : Beating start may pulse k0 o0 (Phase.Beats (standing_of pulse)) k0 o0
  beating_starts = record {
    calls = [];
    run = IsBeating.begins;
    made = made_none start k0 k0 refl refl refl;
    drawn = omega arith;
    adds = adds_none o0;
  }

  -- the text was looked at if that was due, and the publishers' list was asked for, if it is another than the one last
  -- set
  pub relisted : (k new : Knowledge Entry) (o : Output) (now : ℕ) (before looked after : Standing) (look : Option Look)
      → may now ≡ true
      → LooksAt pulse.rolls now before look looked
      → Relisted start (made_at looked.publishing now) now looked k after new
      → Beating start may pulse k0 o0 (Phase.Beats before) k o
      → Beating start may pulse k0 o0 (Phase.Times now after) new o
  relisted k new o now before looked after look given looks r b = record {
    calls = b.calls ++ r.calls;
    run = subst (λ (s : Standing). IsBeating may pulse (b.calls ++ r.calls) (Phase.Times now s)) (sym r.is)
        (IsBeating.relists b.calls r.calls now before looked look r.next b.run given looks r.asked);
    made = made_both start k0 k new b.calls r.calls b.made r.made;
    drawn = let p = b.drawn in let q = r.drawn in omega arith;
    adds = subst (λ t. Adds t o0 o)
        (sym (lines_same b.calls r.calls
        (silent (made_at looked.publishing now) now looked.set r.next r.calls r.asked))) b.adds;
  }

  pub timed : (k new : Knowledge Entry) (o : Output) (now : ℕ) (standing : Standing) (beat : TimerAnswer)
      → Made start k new (timer now beat ∷ []) → k.drawn < new.drawn
      → Beating start may pulse k0 o0 (Phase.Times now standing) k o
      → Beating start may pulse k0 o0 (Phase.Takes now standing) new o
  timed k new o now standing beat made more b = record {
    calls = b.calls ++ timer now beat ∷ [];
    run = IsBeating.beats b.calls now standing beat b.run;
    made = made_both start k0 k new b.calls (timer now beat ∷ []) b.made made;
    drawn = let p = b.drawn in omega arith;
    adds = subst (λ t. Adds t o0 o) (sym (lines_same b.calls (timer now beat ∷ []) refl)) b.adds;
  }

  -- reports were taken, and their lines written
  taken_all : (phase : Phase) (k new : Knowledge Entry) (o o' : Output) (now : ℕ) (standing : Standing)
      → after_beat pulse.timing now standing ≡ phase
      → Beating start may pulse k0 o0 (Phase.Takes now standing) k o → TakesReports start turns k o ending.Done new o'
      → Beating start may pulse k0 o0 phase new o'
  taken_all phase k new o o' now standing is b t = record {
    calls = b.calls ++ reports t.handed ∷ [];
    run = subst (λ p. IsBeating may pulse (b.calls ++ reports t.handed ∷ []) p) is
        (IsBeating.takes b.calls now standing t.handed b.run);
    made = made_both start k0 k new b.calls (reports t.handed ∷ []) b.made t.made;
    drawn = let p = b.drawn in let q = t.drawn in omega arith;
    adds = subst (λ l. Adds l o0 o') (sym (lines_more b.calls (reports t.handed ∷ [])))
        (adds_both o0 o o' (lines_of b.calls) (lines_of (reports t.handed ∷ [])) b.adds t.written);
  }

  -- no beat follows
  beaten : (e : Ending) (k : Knowledge Entry) (o : Output) (p : Phase) (b : Beating start may pulse k0 o0 p k o)
      → IsWritten e (lines_of b.calls) o0 o → IsReason turns b.calls p k.drawn e
      → Beaten start turns may pulse k0 o0 e k o
  beaten e k o p b written reason = record {
    calls = b.calls;
    phase = p;
    run = b.run;
    made = b.made;
    drawn = b.drawn;
    written = written;
    reason = reason;
  }

  taken_done : (over : Bool) (k new : Knowledge Entry) (o o' : Output) (now : ℕ) (standing : Standing)
      → is_over pulse.timing now ≡ over
      → Beating start may pulse k0 o0 (Phase.Takes now standing) k o → TakesReports start turns k o ending.Done new o'
      → Follows start turns may pulse k0 o0 standing (after_reports ending.Done over) new o'
  taken_done true k new o o' now standing is b t =
      let last = taken_all Phase.Over k new o o' now standing (rw is refl) b t in
      beaten ending.Done new o' Phase.Over last last.adds refl
  taken_done false k new o o' now standing is b t =
      taken_all (Phase.Beats standing) k new o o' now standing (rw is refl) b t

  -- the call had no turn, and nothing was written
  pub cut : (e : StoreEnd) (p : Phase) (k new : Knowledge Entry) (o o' : Output) → Made start k new []
      → k.drawn ≤ new.drawn → Adds [] o o' → (b : Beating start may pulse k0 o0 p k o)
      → IsReason turns b.calls p new.drawn (ending_of e)
      → Beaten start turns may pulse k0 o0 (ending_of e) new o'
  cut e p k new o o' made later nothing b reason = record {
    calls = b.calls;
    phase = p;
    run = b.run;
    made = subst (λ cs. Made start k0 new cs) (append-nil b.calls) (made_both start k0 k new b.calls [] b.made made);
    drawn = let q = b.drawn in omega arith;
    written = adds_as e (lines_of b.calls) o0 o'
        (subst (λ l. Adds l o0 o') (append-nil (lines_of b.calls))
        (adds_both o0 o o' (lines_of b.calls) [] b.adds nothing));
    reason = reason;
  }

  -- after the reports were taken the beats go on, or are over
  pub taken : (e : Ending) (k new : Knowledge Entry) (o o' : Output) (now : ℕ) (standing : Standing)
      → Beating start may pulse k0 o0 (Phase.Takes now standing) k o → TakesReports start turns k o e new o'
      → Follows start turns may pulse k0 o0 standing (after_reports e (is_over pulse.timing now)) new o'
  taken ending.Done k new o o' now standing b t = taken_done (is_over pulse.timing now) k new o o' now standing refl b t
  taken ending.WriteFault k new o o' now standing b t = record {
    calls = b.calls ++ reports t.handed ∷ [];
    phase = after_beat pulse.timing now standing;
    run = IsBeating.takes b.calls now standing t.handed b.run;
    made = made_both start k0 k new b.calls (reports t.handed ∷ []) b.made t.made;
    drawn = let p = b.drawn in let q = t.drawn in omega arith;
    written = subst (λ l. AddsLess l o0 o') (sym (lines_more b.calls (reports t.handed ∷ [])))
        (adds_then_less o0 o o' (lines_of b.calls) (lines_of (reports t.handed ∷ [])) b.adds t.written);
    reason = (t.handed, (b.calls, refl));
  }
  taken ending.OutOfMemory k new o o' now standing b t =
      cut refused.OutOfMemory (Phase.Takes now standing) k new o o' t.made t.drawn t.written b tt
  taken (ending.StoreFull n) k new o o' now standing b t =
      cut (refused.StoreFull n) (Phase.Takes now standing) k new o o' t.made t.drawn t.written b
      (tt, t.full.0, t.full.1)

  pub finished : (end : BeatEnd) (mid new : Knowledge Entry) (o : Output)
      → Beaten start turns may pulse k0 o0 end.run mid o → Stops start turns mid end.stop new
      → Heartbeat start turns may pulse k0 o0 end new o
  finished end mid new o b s = record {
    calls = b.calls;
    phase = b.phase;
    run = b.run;
    made = made_both start k0 mid new b.calls (stop_calls end.stop) b.made s.made;
    drawn = let p = b.drawn in let q = s.drawn in omega arith;
    written = b.written;
    reason = reason_later turns b.calls b.phase mid.drawn new.drawn end.run s.full b.reason;
    stopped = s.stopped;
  }

module _ {B K : Type 0} (store : Store B K) where
  refused_later : (old new : Knowledge Entry) (e : StoreEnd) → IsWhy store old e new → old.drawn ≤ new.drawn
  refused_later old new refused.OutOfMemory why = let same = ap (λ (k : Knowledge Entry). k.drawn) why in omega arith
  refused_later old new (refused.StoreFull n) why =
      let most = why.1 in
      let same = ap (λ (k : Knowledge Entry). k.drawn) why.2 in omega arith

  refused_reason : (phase : Phase) → IsDue phase → (old new : Knowledge Entry) (e : StoreEnd) (calls : List Call)
      → IsWhy store old e new → IsReason (turns_of store) calls phase new.drawn (ending_of e)
  refused_reason phase due old new refused.OutOfMemory calls why = due
  refused_reason phase due old new (refused.StoreFull n) calls why =
      (due, why.0, ap (λ (k : Knowledge Entry). k.drawn) why.2)

  -- the next call had no turn
  pub not_called : (may : ℕ → Bool) (pulse : Pulse) (k0 : Knowledge Entry) (o0 : Output) (phase : Phase) → IsDue phase
      → (old new : Pass Entry) (o : Output) (e : StoreEnd)
      → Beating (start_of store) may pulse k0 o0 phase (known old) o → Refused store old e new
      → Beaten (start_of store) (turns_of store) may pulse k0 o0 (ending_of e) (known new) o
  not_called may pulse k0 o0 phase due old new o e b r =
      cut (start_of store) (turns_of store) may pulse k0 o0 e phase (known old) (known new) o o r.made
      (refused_later (known old) (known new) e r.why) (adds_none o) b
      (refused_reason phase due (known old) (known new) e b.calls r.why)

  -- reports had no turn
  pub not_taken : (old new : Pass Entry) (o : Output) (e : StoreEnd) → Refused store old e new
      → TakesReports (start_of store) (turns_of store) (known old) o (ending_of e) (known new) o
  not_taken old new o refused.OutOfMemory r = record {
    handed = [];
    made = r.made;
    drawn = refused_later (known old) (known new) refused.OutOfMemory r.why;
    written = adds_none o;
    full = tt;
  }
  not_taken old new o (refused.StoreFull n) r = record {
    handed = [];
    made = r.made;
    drawn = refused_later (known old) (known new) (refused.StoreFull n) r.why;
    written = adds_none o;
    full = (r.why.0, ap (λ (k : Knowledge Entry). k.drawn) r.why.2);
  }

  -- there is no other list
  pub unasked : (made : Option TrustedList) (now : ℕ) (standing : Standing) (k : Knowledge Entry)
      → IsOtherList made standing.set None → Relisted (start_of store) made now standing k standing k
  unasked made now standing k same = record {
    calls = [];
    next = standing.set;
    asked = Relists.stays same;
    is = refl;
    made = made_none (start_of store) k k refl refl refl;
    drawn = omega arith;
  }

  asked : (made : Option TrustedList) (now : ℕ) (standing : Standing) (list : TrustedList) (refusal : Option Refusal)
      (old new : Pass Entry) → IsOtherList made standing.set (Some list)
      → Made (start_of store) (known old) (known new) (relist now list refusal ∷ [])
      → (known old).drawn < (known new).drawn
      → Relisted (start_of store) made now standing (known old)
      (with_set standing (set_after standing.set list refusal)) (known new)
  asked made now standing list refusal old new other calls later = record {
    calls = relist now list refusal ∷ [];
    next = set_after standing.set list refusal;
    asked = Relists.follows list refusal other;
    is = refl;
    made = calls;
    drawn = omega (arith, later);
  }

  -- the other list is set
  pub set_now : (made : Option TrustedList) (now : ℕ) (standing : Standing) (list : TrustedList) (old new : Pass Entry)
      → IsOtherList made standing.set (Some list) → Called store old (Relist now list) Done new
      → Relisted (start_of store) made now standing (known old) (with_set standing list) (known new)
  set_now made now standing list old new other c =
      asked made now standing list None old new other c.made c.later

  -- it is refused
  pub not_set : (made : Option TrustedList) (now : ℕ) (standing : Standing) (list : TrustedList) (why : Refusal)
      (old new : Pass Entry)
      → IsOtherList made standing.set (Some list) → Called store old (Relist now list) (answer.Refused why) new
      → Relisted (start_of store) made now standing (known old) standing (known new)
  not_set made now standing list why old new other c =
      asked made now standing list (Some why) old new other c.made c.later

  pub told : (old : Knowledge Entry) (mid new : Pass Entry) → known mid ≡ old → Called store mid Stop Done new
      → Stops (start_of store) (turns_of store) old stopping.Done (known new)
  told old mid new same c =
      let more = c.later in
      let most = c.within in
      subst (λ (k : Knowledge Entry). Stops (start_of store) (turns_of store) k stopping.Done (known new)) same
      (record { made = c.made; drawn = omega arith; stopped = tt; full = λ e. absurd (omega (arith, e, more, most)) })

  -- memory ran out
  pub again : (old : Knowledge Entry) (mid new : Pass Entry) (e : StoreEnd) → e ≡ refused.OutOfMemory → known mid ≡ old
      → Refused store mid e new → known new ≡ old
  again old mid new e is same r = (subst (λ (x : StoreEnd). IsWhy store (known mid) x (known new)) is r.why) ∙ same

  pub not_told : (n : ℕ) (old : Knowledge Entry) (mid new : Pass Entry) (e : StoreEnd) → e ≡ refused.StoreFull n
      → known mid ≡ old → Refused store mid e new
      → Stops (start_of store) (turns_of store) old (stopping.StoreFull n) (known new)
  not_told n old mid new e is same r =
      let why = subst (λ (x : StoreEnd). IsWhy store (known mid) x (known new)) is r.why in
      let all = ap (λ (k : Knowledge Entry). k.drawn) why.2 in
      subst (λ (k : Knowledge Entry). Stops (start_of store) (turns_of store) k (stopping.StoreFull n) (known new)) same
      (record {
        made = r.made;
        drawn = refused_later (known mid) (known new) e r.why;
        stopped = (why.0, all);
        full = λ e. all;
      })

  -- the reports that were handed out stand at the front of the room, and their lines were written
  module _ (old new : Pass Entry) (o o' : Output) (count : ℕ) (before after : List Report)
      (out : HandedOut store old count before after new) (full : length before ≡ room) where
    front : take count after ≡ out.reports
    front = ap (take count) out.room
        ∙ ap (λ (n : ℕ). take n (out.reports ++ drop count before)) out.count
        ∙ take-append_seam out.reports (drop count before)

    made : Made (start_of store) (known old) (known new) (reports out.reports ∷ [])
    made = subst
        (λ (n : ℕ). Made (start_of store) (known old) (known new)
        (record { event = Reports n; answer = Handed out.reports } ∷ []))
        full out.called.made

    lines : report_lines (take count after) ≡ lines_of (reports out.reports ∷ [])
    lines = ap report_lines front ∙ ap report_lines (sym (append-nil out.reports))

    pub all_taken : Adds (report_lines (take count after)) o o'
        → TakesReports (start_of store) (turns_of store) (known old) o ending.Done (known new) o'
    all_taken a = record {
      handed = out.reports;
      made = made;
      drawn = let more = out.called.later in omega arith;
      written = subst (λ t. Adds t o o') lines a;
      full = tt;
    }

    pub some_written : AddsLess (report_lines (take count after)) o o'
        → TakesReports (start_of store) (turns_of store) (known old) o ending.WriteFault (known new) o'
    some_written a = record {
      handed = out.reports;
      made = made;
      drawn = let more = out.called.later in omega arith;
      written = subst (λ t. AddsLess t o o') lines a;
      full = tt;
    }
