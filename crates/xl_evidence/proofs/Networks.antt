-- What is shown in an unforged run is genuine, so only liars are shown twice.
use Rattle.std.proofs.Common.{◌≤◌, ◌≡◌, ℕ, Bool, true, false, cond, List, [], ◌∷◌, refl, ap, Option, Some, None, subst, inl, inr, Result, Ok, Err}
use Rattle.std.specs.Prelude.{◌==◌, ◌&&◌, All, IsTrue, IfSome, option_map, option_to_list, slice_index_or}
use Rattle.std.proofs.lemmas.Bool.{cond_both, and_parts, or_cases, eqb-true}
use Rattle.std.proofs.lemmas.List.Elements.{All-append, All-cons, All-head, All-tail, All-nil, All-weaker}
use Rattle.xl_base.specs.Counts.{one_more}
use Rattle.xl_base.specs.Ids.{same_id}
use Rattle.xl_base.specs.declared.ids.LedgerId.{LedgerId}
use Rattle.xl_io.specs.Keepers.{may_hold}
use Rattle.xl_lists.specs.Agreement.{IsGenuine, has_said, vouches}
use Rattle.xl_lists.specs.Lists.{is_on}
use Rattle.xl_lists.specs.Quorums.{least_shown, liars_shared}
use Rattle.xl_lists.specs.declared.report.Report.{Report as Reported}
use Rattle.xl_lists.specs.declared.said.SaidLedger.{SaidLedger}
use Rattle.xl_lists.proofs.Agreement.{vouches_still, same_id-true}
use Rattle.xl_lists.proofs.Forking.{liars_shown, vouches_twice}
use Rattle.xl_wire.specs.declared.validation.Validation.{Validation}
use Rattle.xl_core.specs.declared.event.CoreEvent.{CoreEvent}
use Rattle.xl_core.specs.declared.event.CoreEvent.TheVariants.{Frame}
use Rattle.xl_core.specs.declared.hearing.Spoken.{Spoken}
use Rattle.xl_core.specs.declared.hearing.Speech.{Speech}
use Rattle.xl_core.specs.declared.hearing.Speech.TheVariants as speech
use Rattle.xl_core.specs.declared.refusal.Refusal.{Refusal}
use Rattle.xl_core.specs.Hearing.{spoken_in}
use Rattle.xl_core.proofs.Heard.{heard_parts}
use Rattle.xl_world.specs.declared.place.Fate.{Fate}
use Rattle.xl_world.specs.declared.place.Place.{Place}
use Rattle.xl_world.specs.Disk.{held_by}
use Rattle.xl_world.specs.World.{World, Step, Act, Again, Torn, Mark, AreFit, IsFit, place_at, is_forged, acts, reply_at, reopened_world, again, torn_world, moment_in, asked_at, said_by, step, run}
use Rattle.xl_world.proofs.Runs.{new_sound, run_sound, run_stays}
use Rattle.xl_world.proofs.Seats.{issued_genuine}
use Rattle.xl_world.proofs.Settling.{IsSound}
use Rattle.xl_world.proofs.Standing.{FrameSays}
use Rattle.xl_world.proofs.Unforged.{heard_unforged, never_none}
use Rattle.xl_evidence.specs.Evidence.{heard_by, said_so}
use Rattle.xl_evidence.specs.Networks.{shown_at_place, shown_in_step, shown_in_run, OnlyLiarsAreNamed, ForksCountLiars}

-- what is genuine in a world
abbrev IsRealIn : World → SaidLedger → Type 0
IsRealIn w = IsGenuine w.liars w.said

-- WHAT IS GENUINE STAYS SO

again_stays : (w : World) (i now number : ℕ) (o : Option Place) (x : SaidLedger) → IsRealIn w x → IsRealIn (again w i now number o) x
again_stays w i now number None x real = real
again_stays w i now number (Some p) x real =
    cond_both (may_hold (held_by p.disk) number) (reopened_world w i p now number) w (λ v. IsRealIn v x) (λ _. real) (λ _. real)

torn_stays : (w : World) (i now number : ℕ) (o : Option Place) (asked : Option ℕ) (x : SaidLedger) → IsRealIn w x → IsRealIn (torn_world w i now number o asked) x
torn_stays w i now number None asked x real = real
torn_stays w i now number (Some p) None x real = real
torn_stays w i now number (Some p) (Some s) x real = again_stays w i now number (Some (record { core = p.core; disk = record p.disk { asked = Some s } })) x real

acts_stay : (w : World) (i : ℕ) (e : CoreEvent) (fate : Fate) (o : Option Place) (x : SaidLedger) → IsRealIn w x → IsRealIn (acts w i e fate o) x
acts_stay w i e fate None x real = real
acts_stay w i e fate (Some p) x real = vouches_still w.liars w.said (option_map (said_by i) (reply_at p e fate).issued) x.member x.seq x.id real

step_stays : (w : World) (s : Step) (x : SaidLedger) → IsRealIn w x → IsRealIn (step w s) x
step_stays w (Act i e fate) x real = acts_stay w i e fate (place_at i w.places) x real
step_stays w (Again i now number) x real = again_stays w i now number (place_at i w.places) x real
step_stays w (Torn i e number) x real = torn_stays w i (moment_in e) number (place_at i w.places) (asked_at (place_at i w.places) e) x real
step_stays w Mark x real = real

stays_real : (w : World) (ss : List Step) (x : SaidLedger) → IsRealIn w x → IsRealIn (run w ss) x
stays_real w [] x real = real
stays_real w (s ∷ ss) x real = stays_real (step w s) ss x (step_stays w s x real)

-- WHAT A STEP SHOWS IS GENUINE BEHIND IT

heard_real : (w : World) (p : Place) → All (FrameSays (IsRealIn w)) w.sent → (e : CoreEvent) → is_forged w p.core.node e ≡ false → All (IsRealIn w) (option_to_list (heard_by p.core e))
heard_real w p sent (Frame now bytes) fair =
    by_spoken (spoken_in p.core.node.keys p.core.node.list.members bytes)
    (λ from v is. heard_unforged w p.core.node sent bytes fair from v (heard_parts p.core.node.keys p.core.node.list.members bytes (record { from = from; what = speech.Validation v }) is))
  where
    by_speech : (from : ℕ) (what : Speech) → ((v : Validation) → what ≡ speech.Validation v → IsRealIn w (said_by from v)) →
        All (IsRealIn w) (option_to_list (said_so (Ok (record { from = from; what = what }))))
    by_speech from (speech.Validation v) real = All-cons (IsRealIn w) (said_by from v) [] (real v refl) (All-nil (IsRealIn w))
    by_speech from other real = All-nil (IsRealIn w)

    by_spoken : (r : Result Spoken Refusal) → ((f : ℕ) (v : Validation) → r ≡ Ok (record { from = f; what = speech.Validation v }) → IsRealIn w (said_by f v)) → All (IsRealIn w) (option_to_list (said_so r))
    by_spoken (Err why) real = All-nil (IsRealIn w)
    by_spoken (Ok said) real = by_speech said.from said.what
        (λ v told. real said.from v (ap (λ (u : Speech). let r : Result Spoken Refusal = Ok (record { from = said.from; what = u }) in r) told))
heard_real w p sent other fair = All-nil (IsRealIn w)

issued_real : (P : SaidLedger → Type 0) (i : ℕ) (o : Option Validation) → IfSome o (λ v. P (said_by i v)) → All P (option_to_list (option_map (said_by i) o))
issued_real P i None h = All-nil P
issued_real P i (Some v) h = All-cons P (said_by i v) [] h (All-nil P)

not_forged : (b : Bool) (k : ℕ) → cond b (one_more k) k ≡ 0 → b ≡ false
not_forged true k h = absurd (never_none k h)
not_forged false k h = refl

place_real : (w : World) (i : ℕ) (e : CoreEvent) (fate : Fate) → All (FrameSays (IsRealIn w)) w.sent → (o : Option Place) → (acts w i e fate o).forged ≡ 0 → All (IsRealIn (acts w i e fate o)) (shown_at_place i o e fate)
place_real w i e fate sent None none = All-nil (IsRealIn w)
place_real w i e fate sent (Some p) none =
    let v : World = acts w i e fate (Some p) in
    All-append (IsRealIn v) _ _
    (All-weaker (IsRealIn w) (IsRealIn v) (acts_stay w i e fate (Some p)) _ (heard_real w p sent e (not_forged (is_forged w p.core.node e) w.forged none)))
    (issued_real (IsRealIn v) i (reply_at p e fate).issued (issued_genuine w.liars w.said i (reply_at p e fate).issued))

step_real : (w : World) (s : Step) → All (FrameSays (IsRealIn w)) w.sent → (step w s).forged ≡ 0 → All (IsRealIn (step w s)) (shown_in_step w s)
step_real w (Act i e fate) sent none = place_real w i e fate sent (place_at i w.places) none
step_real w (Again i now number) sent none = All-nil (IsRealIn (step w (Again i now number)))
step_real w (Torn i e number) sent none = All-nil (IsRealIn (step w (Torn i e number)))
step_real w Mark sent none = All-nil (IsRealIn (step w Mark))

-- so what a run shows is genuine in the end
run_real : (w : World) (ss : List Step) → AreFit ss → (run w ss).forged ≡ 0 → IsSound w → All (IsRealIn (run w ss)) (shown_in_run w ss)
run_real w [] fit none sound = All-nil (IsRealIn w)
run_real w (s ∷ ss) fit none sound =
    let first : (step w s).forged ≡ 0 = (run_stays (step w s) ss).forged none in
    All-append (IsRealIn (run w (s ∷ ss))) _ _
    (All-weaker (IsRealIn (step w s)) (IsRealIn (run w (s ∷ ss))) (stays_real (step w s) ss) _ (step_real w s sound.kept.genuine.sent first))
    (run_real (step w s) ss (All-tail IsFit s ss fit) none (run_sound w (s ∷ []) (All-cons IsFit s [] (All-head IsFit s ss fit) (All-nil IsFit)) first sound))

-- WHO IS SHOWN TWICE

is_that : (x : SaidLedger) (m s : ℕ) (id : LedgerId) → ((x.member == m && x.seq == s) && same_id x.id id) ≡ true → (x.member ≡ m) × (x.seq ≡ s) × (x.id ≡ id)
is_that x m s id h =
    let both = and_parts (x.member == m && x.seq == s) _ h in
    let first = and_parts (x.member == m) _ both.0 in
    (eqb-true _ _ first.0, eqb-true _ _ first.1, same_id-true _ _ both.1)

shown_vouches : (liars : List ℕ) (said xs : List SaidLedger) → All (IsGenuine liars said) xs → (m s : ℕ) (a : LedgerId) → IsTrue (has_said xs m s a) → IsTrue (vouches liars said s a m)
shown_vouches liars said [] real m s a h = cc
shown_vouches liars said (x ∷ xs) real m s a h =
    elim (or_cases ((x.member == m && x.seq == s) && same_id x.id a) (has_said xs m s a) h) [
      | inl here ↦
          let that = is_that x m s a here in
          subst (λ (k : ℕ). IsTrue (vouches liars said s a k)) that.0
          (subst (λ (k : ℕ). IsTrue (vouches liars said k a x.member)) that.1
          (subst (λ (id : LedgerId). IsTrue (vouches liars said x.seq id x.member)) that.2 (All-head (IsGenuine liars said) x xs real)))
      | inr later ↦ shown_vouches liars said xs (All-tail (IsGenuine liars said) x xs real) m s a later
    ]

pub only_liars_are_named : OnlyLiarsAreNamed
only_liars_are_named w steps new fit none m s a b first second differ =
    let v : World = run w steps in
    let sound : IsSound w = new_sound w new in
    let real = run_real w steps fit none sound in
    subst (λ (ls : List ℕ). IsTrue (is_on ls m)) (run_stays w steps).liars
    (vouches_twice v.liars v.said (run_sound w steps fit none sound).kept.once m s a b differ
    (shown_vouches v.liars v.said (shown_in_run w steps) real m s a first)
    (shown_vouches v.liars v.said (shown_in_run w steps) real m s b second))

pub forks_count_liars : ForksCountLiars
forks_count_liars w steps new fit none i d i_in j e j_in same_seq differ =
    let v : World = run w steps in
    let kept = (run_sound w steps fit none (new_sound w new)).kept in
    let r : Reported = slice_index_or v.reports i d in
    let q : Reported = slice_index_or v.reports j e in
    subst (λ (ls : List ℕ). least_shown r.list q.list ≤ liars_shared ls r.list.members q.list.members) (run_stays w steps).liars
    (liars_shown v.liars v.said kept.once r q (kept.backed i d i_in) (kept.backed j e j_in) same_seq differ)
