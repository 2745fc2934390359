-- Each step of an unforged run of cores keeps what is kept, so reports agree.
use Rattle.std.proofs.Common.{◌≡◌, ℕ, ◌<◌, ◌≤◌, Bool, true, false, cond, List, [], ◌∷◌, ◌++◌, refl, arith, ap, sym, ◌∙◌, Option, Some, None, subst}
use Rattle.std.specs.Prelude.{◌==◌, All, IfSome, IsTrue}
use Rattle.std.proofs.lemmas.Bool.{cond_both}
use Rattle.std.proofs.lemmas.List.Elements.{All-append, All-cons, All-head, All-tail, All-nil}
use Rattle.xl_lists.specs.declared.said.SaidLedger.{SaidLedger}
use Rattle.xl_base.specs.declared.ids.LedgerId.{LedgerId}
use Rattle.xl_lists.specs.Agreement.{IsGenuine, IsBacked, Agree, has_said}
use Rattle.xl_lists.proofs.Agreement.{law_of_agreement, vouches_still}
use Rattle.xl_core.specs.declared.event.CoreEvent.{CoreEvent}
use Rattle.xl_core.specs.declared.event.CoreEvent.TheVariants.{Issue, Frame, Timer}
use Rattle.xl_core.specs.declared.hearing.Speech.TheVariants as speech
use Rattle.xl_core.specs.Answers.{Done}
use Rattle.xl_core.specs.Core.{Core, CoreReply, core_reply, core_asks}
use Rattle.xl_core.specs.Node as nodes
use Rattle.xl_core.specs.Node.{Node, settings_of}
use Rattle.xl_core.proofs.Heard.{heard_parts}
use Rattle.xl_world.specs.declared.place.Disk.{Disk}
use Rattle.xl_world.specs.declared.place.Fate.{Fate}
use Rattle.xl_io.specs.Keepers.{MayHold, may_hold}
use Rattle.xl_base.specs.Counts.{one_more}
use Rattle.xl_world.specs.Disk.{held_by, resting, restored, answer_of}
use Rattle.xl_world.specs.Networks.{IsOpened, IsNew, HeadlineOfNetworks}
use Rattle.xl_world.proofs.Standing.{FrameSays}
use Rattle.xl_world.specs.World.{said_by}
use Rattle.xl_world.specs.declared.place.Place.{Place}
use Rattle.xl_world.specs.World.{World, Step, Act, Again, Torn, Mark, AreFit, IsFit, IsFitEvent, place_at, is_forged, set_by, acts, reply_at, disk_after, core_again, reopened_world, again, torn_world, moment_in, asked_at, marked_world, step, run}
use Rattle.xl_world.specs.Starts.{start, IsRun}
use Rattle.xl_world.proofs.Standing.{CoreSays, Stands}
use Rattle.xl_world.proofs.NodeSteps.{asks_above, failed_rises, opened_well}
use Rattle.xl_world.proofs.Unforged.{heard_unforged, may_hold-true, never_none}
use Rattle.xl_world.proofs.Seats.{IsWell, spoken, issued_genuine, some_same}
use Rattle.xl_world.proofs.Settling.{IsSound, GenuineThen, settled_sound, core_weaker, at_its_number, seat}
use Rattle.xl_world.proofs.CoreSteps.{CoreHeard, core_steps, core_says, opened_core_steps, opened_core_says}

-- WHAT COMES UNFORGED

heard_genuine : (w : World) (n : Node) → Stands w (IsGenuine w.liars w.said) → (e : CoreEvent) → is_forged w n e ≡ false → CoreHeard (IsGenuine w.liars w.said) n e
heard_genuine w n stands (Frame now bytes) fair = λ from v is.
    heard_unforged w n stands.sent bytes fair from v (heard_parts n.keys n.list.members bytes (record { from = from; what = speech.Validation v }) is)
heard_genuine w n stands other fair = tt

pub heard_weaker : (P Q : SaidLedger → Type 0) → ((x : SaidLedger) → P x → Q x) → (n : Node) (e : CoreEvent) → CoreHeard P n e → CoreHeard Q n e
heard_weaker P Q h n (Frame now bytes) says = λ from v is. h (said_by from v) (says from v is)
heard_weaker P Q h n other says = tt

-- THE STEPS

act_sound : (w : World) (i : ℕ) (e : CoreEvent) (fate : Fate) → IsFitEvent e → IsSound w → (o : Option Place) → place_at i w.places ≡ o → (acts w i e fate o).forged ≡ 0 → IsSound (acts w i e fate o)
act_sound w i e fate fit sound None at same = sound
act_sound w i e fate fit sound (Some p) at same =
    let its : p.core.node.me ≡ i = at_its_number i w.places p at in
    let r : CoreReply = reply_at p e fate in
    let still = λ (x : SaidLedger). vouches_still w.liars w.said (spoken i r.issued) x.member x.seq x.id in
    settled_sound w i (is_forged w p.core.node e) (set_by p.core.node.me e r.answer) p r (disk_after p e fate) at (core_steps p e fate fit (sound.well i p at))
    (core_says (GenuineThen w i r) p.core e (answer_of p.disk fate)
    (core_weaker (IsGenuine w.liars w.said) (GenuineThen w i r) still p.core (sound.kept.genuine.places i p at))
    (heard_weaker (IsGenuine w.liars w.said) (GenuineThen w i r) still p.core.node e (heard_genuine w p.core.node sound.kept.genuine e (not_forged (is_forged w p.core.node e) w.forged same)))
    (subst (λ m. IfSome r.issued (λ v. GenuineThen w i r (said_by m v))) (sym its) (issued_genuine w.liars w.said i r.issued)))
    sound
  where
    not_forged : (b : Bool) (k : ℕ) → cond b (one_more k) k ≡ 0 → b ≡ false
    not_forged true k h = absurd (never_none k h)
    not_forged false k h = refl

-- a core opened again with a number that is not below its disk's
reopened_sound : (w : World) (i now number : ℕ) → IsSound w → (p : Place) → place_at i w.places ≡ Some p → (k : ℕ) × (k ≤ number) × MayHold (held_by p.disk) k → (asked : Option ℕ) →
    IsSound (reopened_world w i (record { core = p.core; disk = record p.disk { asked = asked } }) now number)
reopened_sound w i now number sound p at low asked =
    settled_sound w i false None p (core_reply (core_again p now number) Done) (restored (record p.disk { asked = asked }) number) at
    (opened_core_steps p now number asked (sound.well i p at) low)
    (record { core = opened_core_says (IsGenuine w.liars w.said) (settings_of p.core.node) now number; sent = All-nil (FrameSays (IsGenuine w.liars w.said)) }) sound

again_sound : (w : World) (i now number : ℕ) → IsSound w → (o : Option Place) → place_at i w.places ≡ o → IsSound (again w i now number o)
again_sound w i now number sound None at = sound
again_sound w i now number sound (Some p) at =
    cond_both (may_hold (held_by p.disk) number) (reopened_world w i p now number) w IsSound
    (λ e. reopened_sound w i now number sound p at (number, omega arith, may_hold-true (held_by p.disk) number e) p.disk.asked) (λ _. sound)

torn_sound : (w : World) (i now number : ℕ) → IsSound w → (p : Place) → place_at i w.places ≡ Some p → (asked : Option ℕ) → IfSome asked (λ s. p.core.node.kept < s) → IsSound (torn_world w i now number (Some p) asked)
torn_sound w i now number sound p at None above = sound
torn_sound w i now number sound p at (Some s) above =
    let k : Disk = record p.disk { asked = Some s } in
    cond_both (may_hold (held_by k) number) (reopened_world w i (record { core = p.core; disk = k }) now number) w IsSound
    (λ e. reopened_sound w i now number sound p at (failed_rises p.disk s number (omega (arith, above, (sound.well i p at).in_force)) (may_hold-true (held_by k) number e)) (Some s))
    (λ _. sound)

-- a save is asked above the number that was kept
asked_above : (core : Core) (e : CoreEvent) → IfSome (core_asks core e) (λ s. core.node.kept < s)
asked_above core (Issue now seq id full) = asks_above core.node (nodes.Issue now seq id full)
asked_above core (Timer now) = asks_above core.node (nodes.Timer now)
asked_above core other = tt

torn_at : (w : World) (i now number : ℕ) (e : CoreEvent) → IsSound w → (o : Option Place) → place_at i w.places ≡ o → IsSound (torn_world w i now number o (asked_at o e))
torn_at w i now number e sound None at = sound
torn_at w i now number e sound (Some p) at = torn_sound w i now number sound p at (core_asks p.core e) (asked_above p.core e)

-- where the mark stands says nothing
marked_sound : (w : World) → IsSound w → IsSound (marked_world w)
marked_sound w sound = record {
  kept = record {
    saved = sound.kept.saved;
    once = sound.kept.once;
    genuine = record { places = sound.kept.genuine.places; sent = sound.kept.genuine.sent };
    backed = sound.kept.backed;
  };
  well = sound.well;
}

step_sound : (w : World) (s : Step) → IsFit s → (step w s).forged ≡ 0 → IsSound w → IsSound (step w s)
step_sound w (Act i e fate) fit same sound = act_sound w i e fate fit sound (place_at i w.places) refl same
step_sound w (Again i now number) fit same sound = again_sound w i now number sound (place_at i w.places) refl
step_sound w (Torn i e number) fit same sound = torn_at w i (moment_in e) number e sound (place_at i w.places) refl
step_sound w Mark fit same sound = marked_sound w sound

-- WHAT STAYS OVER A RUN

-- the liars stay, a world that isn't spent isn't in the end, and if no frame was forged in the end none was at first
pub record Stays (w v : World) : Type 0 where
  pub liars : v.liars ≡ w.liars
  pub forged : v.forged ≡ 0 → w.forged ≡ 0
  pub spent : v.spent ≡ w.spent

acts_stays : (w : World) (i : ℕ) (e : CoreEvent) (fate : Fate) (o : Option Place) → Stays w (acts w i e fate o)
acts_stays w i e fate None = record { liars = refl; forged = λ h. h; spent = refl }
acts_stays w i e fate (Some p) = record { liars = refl; forged = cond_both (is_forged w p.core.node e) (one_more w.forged) w.forged (λ k. k ≡ 0 → w.forged ≡ 0) (λ _ h. absurd (never_none w.forged h)) (λ _ h. h); spent = refl }

again_stays : (w : World) (i now number : ℕ) (o : Option Place) → Stays w (again w i now number o)
again_stays w i now number None = record { liars = refl; forged = λ h. h; spent = refl }
again_stays w i now number (Some p) =
    cond_both (may_hold (held_by p.disk) number) (reopened_world w i p now number) w (Stays w) (λ _. record { liars = refl; forged = λ h. h; spent = refl }) (λ _. record { liars = refl; forged = λ h. h; spent = refl })

torn_stays : (w : World) (i now number : ℕ) (o : Option Place) (asked : Option ℕ) → Stays w (torn_world w i now number o asked)
torn_stays w i now number None asked = record { liars = refl; forged = λ h. h; spent = refl }
torn_stays w i now number (Some p) None = record { liars = refl; forged = λ h. h; spent = refl }
torn_stays w i now number (Some p) (Some s) = again_stays w i now number (Some (record { core = p.core; disk = record p.disk { asked = Some s } }))

step_stays : (w : World) (s : Step) → Stays w (step w s)
step_stays w (Act i e fate) = acts_stays w i e fate (place_at i w.places)
step_stays w (Again i now number) = again_stays w i now number (place_at i w.places)
step_stays w (Torn i e number) = torn_stays w i (moment_in e) number (place_at i w.places) (asked_at (place_at i w.places) e)
step_stays w Mark = record { liars = refl; forged = λ h. h; spent = refl }

pub run_stays : (w : World) (ss : List Step) → Stays w (run w ss)
run_stays w [] = record { liars = refl; forged = λ h. h; spent = refl }
run_stays w (s ∷ ss) =
    let first = step_stays w s in
    let rest = run_stays (step w s) ss in
    record { liars = rest.liars ∙ first.liars; forged = λ h. first.forged (rest.forged h); spent = rest.spent ∙ first.spent }

-- each world of an unforged run is sound
pub run_sound : (w : World) (ss : List Step) → AreFit ss → (run w ss).forged ≡ 0 → IsSound w → IsSound (run w ss)
run_sound w [] fit none sound = sound
run_sound w (s ∷ ss) fit none sound =
    run_sound (step w s) ss (All-tail IsFit s ss fit) none (step_sound w s (All-head IsFit s ss fit) ((run_stays (step w s) ss).forged none) sound)

-- what holds of each place holds of the one of a number
each_at : (P : Place → Type 0) (i : ℕ) (ps : List Place) (p : Place) → All P ps → place_at i ps ≡ Some p → P p
each_at P i [] p each h = cc
each_at P i (x ∷ xs) p each h =
    cond_both (x.core.node.me == i) (Some x) (place_at i xs) (λ o. o ≡ Some p → P p)
    (λ _ here. subst P (sym (some_same x p here)) (All-head P x xs each)) (λ _ there. each_at P i xs p (All-tail P x xs each) there) h

opened_says : (P : SaidLedger → Type 0) (p : Place) → IsOpened p → CoreSays P p.core
opened_says P p is = subst (λ (x : Place). CoreSays P x.core) (sym is.opened) (opened_core_says P is.settings is.moment is.kept)

opened_sits : (p : Place) → IsOpened p → IsWell (seat p.core p.disk)
opened_sits p is =
    subst (λ (x : Place). IsWell (seat x.core x.disk)) (sym is.opened)
    (opened_well is.settings is.moment is.kept (resting is.kept) is.list refl)

nothing_said : (said : List SaidLedger) (m s : ℕ) (id : LedgerId) → said ≡ [] → IsTrue (has_said said m s id) → ⊥
nothing_said said m s id none is = let no : IsTrue (has_said [] m s id) = subst (λ (xs : List SaidLedger). IsTrue (has_said xs m s id)) none is in cc

pub new_sound : (w : World) → IsNew w → IsSound w
new_sound w new = record {
  kept = record {
    saved = λ m s n id said _. absurd (nothing_said w.said m s id new.said said);
    once = λ m s a b said _. absurd (nothing_said w.said m s a new.said said);
    genuine = record {
      places = λ i p h. opened_says (IsGenuine w.liars w.said) p (each_at IsOpened i w.places p new.opened h);
      sent = subst (All (FrameSays (IsGenuine w.liars w.said))) (sym new.sent) (All-nil (FrameSays (IsGenuine w.liars w.said)));
    };
    backed = subst (All (IsBacked w.liars w.said)) (sym new.reports) (All-nil (IsBacked w.liars w.said));
  };
  well = λ i p h. opened_sits p (each_at IsOpened i w.places p new.opened h);
}

-- reports agree, in each unforged run of a new network
pub headline_of_networks : HeadlineOfNetworks
headline_of_networks w steps new fit none =
    subst (λ ls. Agree ls (run w steps).reports) (run_stays w steps).liars
    (law_of_agreement (run_sound w steps fit none (new_sound w new)).kept)

-- RUNS GO ON

pub run-append : (w : World) (ss ts : List Step) → run w (ss ++ ts) ≡ run (run w ss) ts
run-append w [] ts = refl
run-append w (s ∷ ss) ts = run-append (step w s) ss ts

-- a run and a step more
pub run_more : (w v : World) (s : Step) → v ≡ step w s → IsFit s → IsRun w → IsRun v
run_more w v s is fit run_w =
    let e : run (start run_w.0 w.liars run_w.1) (run_w.2 ++ s ∷ []) ≡ v = run-append (start run_w.0 w.liars run_w.1) run_w.2 (s ∷ []) ∙ (ap (λ (u : World). step u s) (sym run_w.5) ∙ sym is) in
    let same : w.liars ≡ v.liars = sym (step_stays w s).liars ∙ ap (λ (u : World). u.liars) (sym is) in
    let all : AreFit (run_w.2 ++ s ∷ []) = All-append IsFit run_w.2 (s ∷ []) run_w.4 (All-cons IsFit s [] fit (All-nil IsFit)) in
    (run_w.0, run_w.1, (run_w.2 ++ s ∷ []), run_w.3, all, sym (subst (λ ls. run (start run_w.0 ls run_w.1) (run_w.2 ++ s ∷ []) ≡ v) same e))

-- a run and more steps
pub run_on : (w v : World) (ss : List Step) → v ≡ run w ss → AreFit ss → IsRun w → IsRun v
run_on w v [] is fit run_w = subst (λ (u : World). IsRun u) (sym is) run_w
run_on w v (s ∷ ss) is fit run_w = run_on (step w s) v ss is (All-tail IsFit s ss fit) (run_more w (step w s) s refl (All-head IsFit s ss fit) run_w)
