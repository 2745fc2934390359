-- Which calls of a history are timers: those of its heartbeat.
use Rattle.std.proofs.Common.{◌≡◌, ◌<◌, ◌⊎◌, ◌++◌, ◌∷◌, Bool, true, false, ℕ, Option, None, Some, List, [], length, map, inl, inr, refl, sym, ap, ◌∙◌, subst, arith, ⊎_elim, append_assoc, append-nil}
use Rattle.std.specs.Prelude.{slice_get, if◌then◌else◌}
use Rattle.std.specs.List.{AllByRecursion, flat_map}
use Rattle.std.proofs.lemmas.Grind.{flat_map-append}
use Rattle.std.proofs.lemmas.Option.{slice_get_within}
use Rattle.xl_base.specs.declared.ids.TxId.{TxId}
use Rattle.xl_lists.specs.Lists.{TrustedList}
use Rattle.xl_turns.specs.Places.{all_below}
use Rattle.xl_core.specs.declared.timer_answer.TimerAnswer.{TimerAnswer}
use Rattle.xl_core.specs.declared.timer_answer.TimerAnswer.TheVariants as answered
use Rattle.xl_core.specs.declared.report.Report.{Report}
use Rattle.xl_store.specs.declared.entry.Entry.{Entry}
use Rattle.xl_store.specs.Calls.{Call, calls_of, Rise}
use Rattle.xl_store.proofs.Journals.{length_calls}
use Rattle.xl_peers.specs.Steps.{Step, Read, MayTell, call_in, calls, drain, frame, greet, stop_step}
use Rattle.xl_peers.specs.Sessions.{Phase, IsSession}
use Rattle.xl_peers.specs.Serving.{Deed, Asked, Opened, Talked, Round, IsServing, calls_in}
use Rattle.xl_door.specs.declared.ends.Attended.{Attended}
use Rattle.xl_door.specs.declared.ends.Attended.TheVariants as attended
use Rattle.xl_door.specs.declared.replies.Reply.TheVariants as reply
use Rattle.xl_door.specs.Attending.{last_calls}
use Rattle.xl_door.specs.Rounds as rounds
use Rattle.xl_heartbeat.specs.declared.ends.Ending.{Ending}
use Rattle.xl_heartbeat.specs.declared.ends.Ending.TheVariants as ending
use Rattle.xl_heartbeat.specs.declared.ends.BeatEnd.{BeatEnd}
use Rattle.xl_heartbeat.specs.declared.ends.Stopping.{Stopping}
use Rattle.xl_heartbeat.specs.declared.ends.Stopping.TheVariants as stopping
use Rattle.xl_heartbeat.specs.declared.pulse.Pulse.{Pulse}
use Rattle.xl_heartbeat.specs.declared.standing.Standing.{Standing}
use Rattle.xl_heartbeat.specs.declared.timing.Timing.{Timing}
use Rattle.xl_heartbeat.specs.Outputs.{Output}
use Rattle.xl_heartbeat.specs.Beats.{timer, reports, stop, stop_calls, taking_calls, is_over, IsBeating}
use Rattle.xl_heartbeat.specs.Beats as beats
use Rattle.xl_heartbeat.specs.Looks.{IsLed}
use Rattle.xl_heartbeat.proofs.Leading.{led_on}
use Rattle.xl_heartbeat.specs.Relisting.{made_at, Relists}
use Rattle.xl_workers.specs.Pairing.{Paired}
use Rattle.xl_workers.specs.Submits.{IsSubmit}
use Rattle.xl_workers.specs.Sharing.{Setting, DoorIf, ServePart, SharedOut, SubmitPart, merge_all}
use Rattle.xl_validator.specs.Ends.{AreBeats, IsBeat, IsNoTimer, StandsIn}
use Rattle.xl_validator.proofs.Timers.{HoldsAt, InSome, IsLastAt, all_append, at_place, in_all_below, in_append, in_merge_all}
use Rattle.xl_validator.proofs.Timers.{last_of, some_same}

-- CALLS THAT ARE NO TIMERS

abbrev pub IsOther : Call → Type 0
IsOther call = IsNoTimer call.event

more : {A : Type 0} (f : A → List Call) (xs : List A) (x : A) → AllByRecursion IsOther (flat_map f xs)
    → AllByRecursion IsOther (f x)
    → AllByRecursion IsOther (flat_map f (xs ++ x ∷ []))
more f xs x all here =
    subst (AllByRecursion IsOther) (sym (flat_map-append f xs (x ∷ [])))
    (all_append IsOther (flat_map f xs) (f x ++ []) all
    (subst (AllByRecursion IsOther) (sym (append-nil (f x))) here))

module _ (may_give : ℕ → Bool) (member : ℕ) where
  session_others : (steps : List Step) (phase : Phase) → IsSession may_give member steps phase
      → AllByRecursion IsOther (calls steps)
  session_others steps phase IsSession.begins = tt
  session_others steps phase (IsSession.greets ss run) = more call_in ss (greet member) (session_others ss _ run) (tt, tt)
  session_others steps phase (IsSession.goes_on ss run) = more call_in ss (stop_step false) (session_others ss _ run) (tt, tt)
  session_others steps phase (IsSession.stops ss run) = more call_in ss (stop_step true) (session_others ss _ run) (tt, tt)
  session_others steps phase (IsSession.looks ss answer run) = more call_in ss (MayTell answer) (session_others ss _ run) tt
  session_others steps phase (IsSession.drains ss frames run some) =
      more call_in ss (drain member frames) (session_others ss _ run) (tt, tt)
  session_others steps phase (IsSession.drained ss frames run none) =
      more call_in ss (drain member frames) (session_others ss _ run) (tt, tt)
  session_others steps phase (IsSession.reads ss reading run some) = more call_in ss (Read reading) (session_others ss _ run) tt
  session_others steps phase (IsSession.hands ss now bytes answer rest run may first) =
      more call_in ss (frame now bytes answer) (session_others ss _ run) (tt, tt)
  session_others steps phase (IsSession.handed ss rest run first needs) = session_others ss _ run

  serving_others : (deeds : List Deed) (round : Round) → IsServing may_give member deeds round
      → AllByRecursion IsOther (flat_map calls_in deeds)
  serving_others deeds round IsServing.begins = tt
  serving_others deeds round (IsServing.asks ds answer run) = more calls_in ds (Asked answer) (serving_others ds _ run) (tt, tt)
  serving_others deeds round (IsServing.opens ds answer run) = more calls_in ds (Opened answer) (serving_others ds _ run) tt
  serving_others deeds round (IsServing.talks ds steps written e run talk) =
      more calls_in ds (Talked steps written e) (serving_others ds _ run) (session_others steps talk.phase talk.run)

submit_others : (may_give : ℕ → Bool) (ids : List TxId) (cs : List Call) → Paired (IsSubmit may_give) ids cs
    → AllByRecursion IsOther cs
submit_others may_give [] [] p = tt
submit_others may_give [] (c ∷ cs) p = absurd p
submit_others may_give (id ∷ ids) [] p = absurd p
submit_others may_give (id ∷ ids) (c ∷ cs) p =
    (subst IsNoTimer (sym p.0.2) tt, submit_others may_give ids cs p.1)

door_others : (may_give : ℕ → Bool) (round : rounds.Round) → rounds.IsRound may_give round
    → AllByRecursion IsOther (rounds.calls_in round)
door_others may_give rounds.Quiet is = (tt, tt)
door_others may_give (rounds.Heard line calls reply.Taken taken) is =
    (tt, subst (AllByRecursion IsOther) (sym is.0.4) (tt, tt))
door_others may_give (rounds.Heard line calls (reply.Refused why) taken) is =
    (tt, subst (AllByRecursion IsOther) (sym is.0.4) (tt, tt))
door_others may_give (rounds.Heard line calls reply.NoId taken) is =
    (tt, subst (AllByRecursion IsOther) (sym is.0.2) tt)
door_others may_give (rounds.Heard line calls reply.TooLong taken) is =
    (tt, subst (AllByRecursion IsOther) (sym is.0.1) tt)
door_others may_give (rounds.Heard line calls reply.NoTurn taken) is =
    (tt, subst (AllByRecursion IsOther) (sym is.0.1) tt)

doors_others : (may_give : ℕ → Bool) (all : List rounds.Round) → AllByRecursion (rounds.IsRound may_give) all
    → AllByRecursion IsOther (flat_map rounds.calls_in all)
doors_others may_give [] each = tt
doors_others may_give (round ∷ all) each =
    all_append IsOther (rounds.calls_in round) (flat_map rounds.calls_in all) (door_others may_give round each.0)
    (doors_others may_give all each.1)

last_others : (why : Attended) → AllByRecursion IsOther (last_calls why)
last_others attended.Stopped = (tt, tt)
last_others (attended.StoreFull n) = tt

-- a porter's calls are no timers
gate_others : (s : Setting) (door : Option (List ℕ)) (history : List Entry) (gate : List ℕ) → DoorIf s door history gate
    → (q : ℕ) → StandsIn q gate → HoldsAt IsOther (calls_of s.start history) q
gate_others s None history gate none q here = absurd (subst (StandsIn q) none here)
gate_others s (Some address) history gate part q here =
    let attending = part.attends.attending in
    at_place IsOther (calls_of s.start history) gate (flat_map rounds.calls_in attending.rounds ++ last_calls part.why)
    part.stand.at
    (all_append IsOther (flat_map rounds.calls_in attending.rounds) (last_calls part.why)
    (doors_others s.may_give attending.rounds attending.each) (last_others part.why)) q here

taking_others : (end : Ending) (handed : List Report) → AllByRecursion IsOther (taking_calls end handed)
taking_others ending.Done handed = (tt, tt)
taking_others ending.WriteFault handed = (tt, tt)
taking_others ending.OutOfMemory handed = tt
taking_others (ending.StoreFull n) handed = tt

stop_others : (end : Stopping) → AllByRecursion IsOther (stop_calls end)
stop_others stopping.Done = (tt, tt)
stop_others (stopping.StoreFull n) = tt

parts_others : (s : Setting) (history : List Entry) (members : List ℕ) (parts : List (List ℕ))
    → Paired (ServePart s history) members parts
    → (q : ℕ) → InSome q parts → HoldsAt IsOther (calls_of s.start history) q
parts_others s history [] [] p q h = absurd h
parts_others s history [] (ps ∷ parts) p q h = absurd p
parts_others s history (m ∷ members) [] p q h = absurd h
parts_others s history (m ∷ members) (ps ∷ parts) p q (inl here) =
    let serving = p.0.serves.serving in
    at_place IsOther (calls_of s.start history) ps (flat_map calls_in serving.deeds) p.0.stand.at
    (serving_others s.may_give m serving.deeds p.0.serves.round serving.run) q here
parts_others s history (m ∷ members) (ps ∷ parts) p q (inr there) =
    parts_others s history members parts p.1 q there

-- of a history whose places are shared out each call is the heartbeat's, or no timer
module _ (s : Setting) (pulse : Pulse) (door : Option (List ℕ)) (members : List ℕ) (history : List Entry) (ids : List TxId) (submits : List ℕ)
    (ended : BeatEnd) (last : Ending) (old new : Output)
    (sub : SubmitPart s history ids submits)
    (out : SharedOut s pulse door members history submits ended last old new) where
  abbrev all_calls : List Call
  all_calls = calls_of s.start history

  pub beat_or_other : (q : ℕ) → q < length all_calls → StandsIn q out.beat ⊎ HoldsAt IsOther all_calls q
  beat_or_other q lt =
      let below : q < length history = let e = length_calls s.start history in omega (arith, lt, e) in
      let there = subst (λ (l : List ℕ). StandsIn q l) (sym out.all) (in_all_below q (length history) below) in
      ⊎_elim
      (λ (merged : StandsIn q (merge_all submits (out.beat ∷ out.gate ∷ out.parts))). ⊎_elim
      (λ (submit : StandsIn q submits).
      inr (at_place IsOther all_calls submits sub.calls sub.stand.at (submit_others s.may_give ids sub.calls sub.each) q submit))
      (λ (part : InSome q (out.beat ∷ out.gate ∷ out.parts)). ⊎_elim
      (λ (beat : StandsIn q out.beat). inl beat)
      (λ (others : InSome q (out.gate ∷ out.parts)). ⊎_elim
      (λ (gate : StandsIn q out.gate). inr (gate_others s door history out.gate out.attending q gate))
      (λ (served : InSome q out.parts). inr (parts_others s history members out.parts out.serving q served))
      others)
      part)
      (in_merge_all q submits (out.beat ∷ out.gate ∷ out.parts) merged))
      (λ (end : StandsIn q out.end).
      inr (at_place IsOther all_calls out.end (taking_calls last out.handed) out.ending.stand.at
      (taking_others last out.handed) q end))
      (in_append q (merge_all submits (out.beat ∷ out.gate ∷ out.parts)) out.end there)

-- A HEARTBEAT THAT IS OVER

module _ (may_give : ℕ → Bool) (pulse : Pulse) where
  untaken : (timing : Timing) (b : Bool) (set next : Standing) (now : ℕ)
      → (if b then beats.Over else beats.Beats set) ≡ beats.Takes now next → ⊥
  untaken timing true set next now e = cc
  untaken timing false set next now e = cc

  -- a timer was the last
  timed : (cs : List Call) (phase : beats.Phase) (now : ℕ) (set : Standing) → IsBeating may_give pulse cs phase
      → phase ≡ beats.Takes now set
      → (earlier : List Call) × (beat : TimerAnswer) × (cs ≡ earlier ++ timer now beat ∷ [])
  timed cs phase now set (IsBeating.beats earlier n before beat run) e =
      let same : n ≡ now = cc in (earlier, beat, ap (λ (m : ℕ). earlier ++ timer m beat ∷ []) same)
  timed cs phase now set (IsBeating.takes earlier n before handed run) e =
      absurd (untaken pulse.timing (is_over pulse.timing n) before set now e)
  timed cs phase now set other e = absurd cc

  -- the last beat, at whose moment the time was over
  pub record IsOverAt (cs : List Call) : Type 0 where
    pub earlier : List Call
    pub now : ℕ
    pub beat : TimerAnswer
    pub handed : List Report
    pub parts : cs ≡ earlier ++ timer now beat ∷ reports handed ∷ []
    pub over : is_over pulse.timing now ≡ true

  over_by : (b : Bool) (set : Standing) → (if b then beats.Over else beats.Beats set) ≡ beats.Over → b ≡ true
  over_by true set e = refl
  over_by false set e = absurd cc

  pub over_at : (cs : List Call) (phase : beats.Phase) → IsBeating may_give pulse cs phase → phase ≡ beats.Over → IsOverAt cs
  over_at cs phase (IsBeating.takes earlier n before handed run) e =
      let t = timed earlier (beats.Takes n before) n before run refl in
      record {
        earlier = t.0;
        now = n;
        beat = t.1;
        handed = handed;
        parts = ap (λ (l : List Call). l ++ reports handed ∷ []) t.2
            ∙ append_assoc t.0 (timer n t.1 ∷ []) (reports handed ∷ []);
        over = over_by (is_over pulse.timing n) before e;
      }
  over_at cs phase other e = absurd cc

-- WHOLE BEATS

module _ (may_give : ℕ → Bool) (pulse : Pulse) where
  abbrev IsHisBeat : List Call → Type 0
  IsHisBeat = IsBeat pulse.rolls pulse.publishing

  -- what there is of the beat that is cut short
  abbrev FarAt : beats.Phase → List Call → Type 0
  FarAt (beats.Beats set) cut = cut ≡ []
  FarAt (beats.Times now next) cut = (set : TrustedList) × Relists (made_at next.publishing now) now set cut next.set
  FarAt (beats.Takes now next) cut =
      (set : TrustedList)
      × (asked : List Call)
      × (beat : TimerAnswer)
      × Relists (made_at next.publishing now) now set asked next.set
      × (cut ≡ asked ++ timer now beat ∷ [])
  FarAt beats.Over cut = cut ≡ []

  -- the rolls that the publishers have by then
  abbrev pub LedAt : beats.Phase → Type 0
  LedAt (beats.Beats standing) = IsLed pulse.rolls pulse.publishing standing.publishing
  LedAt (beats.Times now standing) = IsLed pulse.rolls pulse.publishing standing.publishing
  LedAt (beats.Takes now standing) = IsLed pulse.rolls pulse.publishing standing.publishing
  LedAt beats.Over = Unit {0}

  pub record Far (cs : List Call) (phase : beats.Phase) : Type 0 where
    pub whole : List (List Call)
    pub cut : List Call
    pub each : AllByRecursion IsHisBeat whole
    pub is : cs ≡ flat_map (λ (beat : List Call). beat) whole ++ cut
    pub at : FarAt phase cut
    pub led : LedAt phase

  far_after : (b : Bool) (standing : Standing) → FarAt (if b then beats.Over else beats.Beats standing) []
  far_after true standing = refl
  far_after false standing = refl

  led_after : (b : Bool) (standing : Standing) → IsLed pulse.rolls pulse.publishing standing.publishing
      → LedAt (if b then beats.Over else beats.Beats standing)
  led_after true standing led = tt
  led_after false standing led = led

  abbrev all_of : List (List Call) → List Call
  all_of whole = flat_map (λ (beat : List Call). beat) whole

  pub far : (cs : List Call) (phase : beats.Phase) → IsBeating may_give pulse cs phase → Far cs phase
  far cs phase IsBeating.begins = record { whole = []; cut = []; each = tt; is = refl; at = refl; led = IsLed.begins }
  far cs phase (IsBeating.relists earlier asked n before looked look next run may looks relists) =
      let f = far earlier (beats.Beats before) run in
      record {
        whole = f.whole;
        cut = asked;
        each = f.each;
        is = ap (λ (l : List Call). l ++ asked)
            (f.is ∙ ap (λ (l : List Call). all_of f.whole ++ l) f.at ∙ append-nil (all_of f.whole));
        at = (looked.set, relists);
        led = led_on pulse.rolls pulse.publishing n before looked look looks f.led;
      }
  far cs phase (IsBeating.beats earlier n before beat run) =
      let f = far earlier (beats.Times n before) run in
      record {
        whole = f.whole;
        cut = f.cut ++ timer n beat ∷ [];
        each = f.each;
        is = ap (λ (l : List Call). l ++ timer n beat ∷ []) f.is
            ∙ append_assoc (all_of f.whole) f.cut (timer n beat ∷ []);
        at = (f.at.0, f.cut, beat, f.at.1, refl);
        led = f.led;
      }
  far cs phase (IsBeating.takes earlier n before handed run) =
      let f = far earlier (beats.Takes n before) run in
      let beat = f.cut ++ reports handed ∷ [] in
      let is_beat : IsHisBeat beat = record {
        led = before.publishing;
        is_led = f.led;
        now = n;
        set = f.at.0;
        next = before.set;
        asked = f.at.1;
        beat = f.at.2;
        handed = handed;
        relists = f.at.3;
        is = ap (λ (l : List Call). l ++ reports handed ∷ []) f.at.4
            ∙ append_assoc f.at.1 (timer n f.at.2 ∷ []) (reports handed ∷ []);
      } in
      record {
        whole = f.whole ++ beat ∷ [];
        cut = [];
        each = all_append IsHisBeat f.whole (beat ∷ []) f.each (is_beat, tt);
        is = ap (λ (l : List Call). l ++ reports handed ∷ []) f.is
            ∙ append_assoc (all_of f.whole) f.cut (reports handed ∷ [])
            ∙ ap (λ (l : List Call). all_of f.whole ++ l) (sym (append-nil beat))
            ∙ sym (flat_map-append (λ (l : List Call). l) f.whole (beat ∷ []))
            ∙ sym (append-nil (all_of (f.whole ++ beat ∷ [])));
        at = far_after (is_over pulse.timing n) before;
        led = led_after (is_over pulse.timing n) before f.led;
      }

  -- the beat that was cut short, as it could go on
  pub cut_short : (phase : beats.Phase) (cut : List Call) → FarAt phase cut → LedAt phase
      → (cut ≡ []) ⊎ ((missing : List Call) × IsHisBeat (cut ++ missing))
  cut_short (beats.Beats standing) cut at led = inl at
  cut_short (beats.Times now next) cut at led = inr (
    timer now answered.Nothing ∷ reports [] ∷ [],
    record {
      led = next.publishing;
      is_led = led;
      now = now;
      set = at.0;
      next = next.set;
      asked = cut;
      beat = answered.Nothing;
      handed = [];
      relists = at.1;
      is = refl;
    },
  )
  cut_short (beats.Takes now next) cut at led = inr (
    reports [] ∷ [],
    record {
      led = next.publishing;
      is_led = led;
      now = now;
      set = at.0;
      next = next.set;
      asked = at.1;
      beat = at.2;
      handed = [];
      relists = at.3;
      is = ap (λ (l : List Call). l ++ reports [] ∷ []) at.4 ∙ append_assoc at.1 (timer now at.2 ∷ []) (reports [] ∷ []);
    },
  )
  cut_short beats.Over cut at led = inl at

no_timer : (calls : List Call) (place now : ℕ) (b : TimerAnswer) → slice_get calls place ≡ Some (timer now b)
    → HoldsAt IsOther calls place → ⊥
no_timer calls place now b is other =
    let same : other.0 ≡ timer now b = some_same other.0 (timer now b) (sym other.1 ∙ is) in
    subst IsOther same other.2

-- the beats of a history whose places are shared out
pub beats_of : (s : Setting) (pulse : Pulse) (door : Option (List ℕ)) (members : List ℕ) (history : List Entry) (ids : List TxId)
    (submits : List ℕ) (ended : BeatEnd) (last : Ending) (old new : Output)
    (sub : SubmitPart s history ids submits)
    (out : SharedOut s pulse door members history submits ended last old new)
    → AreBeats pulse.rolls pulse.publishing (calls_of s.start history)
beats_of s pulse door members history ids submits ended last old new sub out =
    let all = calls_of s.start history in
    let f = far s.may_give pulse out.calls out.beating.phase out.beating.run in
    let stops = stop_calls ended.stop in
    let parts : out.calls ++ stops ≡ all_of s.may_give pulse f.whole ++ f.cut ++ stops =
    ap (λ (l : List Call). l ++ stops) f.is in
    record {
      whole = f.whole;
      cut = f.cut;
      stop = ended.stop;
      places = out.beat;
      each = f.each;
      last = cut_short s.may_give pulse out.beating.phase f.cut f.at f.led;
      stand = subst (λ (l : List Call). map (slice_get all) out.beat ≡ map Some l) parts out.beating.stand.at;
      rise = subst (λ (n : ℕ). Rise 0 out.beat n) (sym (length_calls s.start history)) out.beating.stand.rise;
      timers = λ place now b is. ⊎_elim
          (λ (mine : StandsIn place out.beat). mine)
          (λ (other : HoldsAt IsOther all place). absurd (no_timer all place now b is other))
          (beat_or_other s pulse door members history ids submits ended last old new sub out place
          (slice_get_within all place (timer now b) is));
    }

-- and of one that has submits alone
pub no_beats : (s : Setting) (pulse : Pulse) (history : List Entry) (ids : List TxId) (submits : List ℕ)
    → SubmitPart s history ids submits → submits ≡ all_below (length history)
    → AreBeats pulse.rolls pulse.publishing (calls_of s.start history)
no_beats s pulse history ids submits sub alone =
    let all = calls_of s.start history in
    record {
      whole = [];
      cut = [];
      stop = stopping.StoreFull 0;
      places = [];
      each = tt;
      last = inl refl;
      stand = refl;
      rise = omega arith;
      timers = λ place now b is.
          let within = slice_get_within all place (timer now b) is in
          let long = length_calls s.start history in
          let there = subst (λ (l : List ℕ). StandsIn place l) (sym alone)
          (in_all_below place (length history) (omega (arith, within, long))) in
          absurd (no_timer all place now b is
          (at_place IsOther all submits sub.calls sub.stand.at (submit_others s.may_give ids sub.calls sub.each) place there));
    }

-- the last timer of the history is that of the last beat
pub last_timer : (s : Setting) (pulse : Pulse) (door : Option (List ℕ)) (members : List ℕ) (history : List Entry) (ids : List TxId)
    (submits : List ℕ) (ended : BeatEnd) (last : Ending) (old new : Output)
    (sub : SubmitPart s history ids submits)
    (out : SharedOut s pulse door members history submits ended last old new)
    (o : IsOverAt s.may_give pulse out.calls)
    → IsLastAt IsOther (calls_of s.start history) (timer o.now o.beat)
last_timer s pulse door members history ids submits ended last old new sub out o =
    let all = calls_of s.start history in
    let stops = stop_calls ended.stop in
    let parts : out.calls ++ stops ≡ o.earlier ++ timer o.now o.beat ∷ reports o.handed ∷ stops =
    ap (λ (l : List Call). l ++ stops) o.parts
    ∙ append_assoc o.earlier (timer o.now o.beat ∷ reports o.handed ∷ []) stops in
    last_of IsOther all out.beat (beat_or_other s pulse door members history ids submits ended last old new sub out) o.earlier
    (timer o.now o.beat) (reports o.handed ∷ stops)
    (subst (λ (l : List Call). map (slice_get all) out.beat ≡ map Some l) parts out.beating.stand.at)
    (subst (λ (n : ℕ). Rise 0 out.beat n) (sym (length_calls s.start history)) out.beating.stand.rise)
    (tt, stop_others ended.stop)
