-- What comes one after the other: a timer at each number, and the sent frames.
use Rattle.std.proofs.Common.{◌≡◌, ℕ, zero, suc, ◌+◌, ◌<◌, ◌≤◌, List, [], ◌∷◌, ◌++◌, length, get_or, drop, refl, arith, ap, sym, ◌∙◌, subst, Option, Some, None, append_assoc, append-nil}
use Rattle.std.specs.Prelude.{slice_get}
use Rattle.xl_core.specs.declared.event.CoreEvent.{CoreEvent}
use Rattle.xl_core.specs.declared.event.CoreEvent.TheVariants.{Frame, Timer}
use Rattle.xl_sched.specs.declared.event.What.TheVariants as what
use Rattle.xl_world.specs.declared.outcome.Outcome.{Outcome}
use Rattle.xl_world.specs.declared.place.Fate.{Fate}
use Rattle.xl_world.specs.declared.place.Fate.TheVariants.{Saved}
use Rattle.xl_world.specs.declared.place.Place.{Place}
use Rattle.xl_world.specs.Sending.{Sent}
use Rattle.xl_world.specs.Emptying.{event_steps}
use Rattle.xl_world.specs.Rested.{IsAtRest}
use Rattle.xl_world.specs.Schedule.{deliveries, delivery, delivery_of, outcomes_at, steps_at, timers, told_in, told_of_step}
use Rattle.xl_world.specs.World.{Mark, Step, World, marked_world, place_at, reply_at, run, sent_in, step}
use Rattle.xl_world.proofs.Emptying.{emptied_acts, event_ran, given_then}
use Rattle.xl_world.proofs.Resting.{event_rests}
use Rattle.xl_world.proofs.Runs.{run-append}
use Rattle.xl_world.proofs.Telling.{told_append}

-- the one at a place, and what follows it
pub at_place : {X : Type 0} (xs more : List X) (k : ℕ) → k < length xs → (x : X) × (slice_get (xs ++ more) k ≡ Some x) × (drop k xs ≡ x ∷ drop (suc k) xs) × ((d : X) → get_or xs k d ≡ x)
at_place [] more k less = absurd (omega arith)
at_place (x ∷ xs) more zero less = (x, refl, refl, λ d. refl)
at_place (x ∷ xs) more (suc k) less = at_place xs more k (omega arith)

pub none_left : {X : Type 0} (xs : List X) (k : ℕ) → length xs ≤ k → drop k xs ≡ []
none_left [] zero past = refl
none_left [] (suc k) past = refl
none_left (x ∷ xs) zero past = absurd (omega arith)
none_left (x ∷ xs) (suc k) past = none_left xs k (omega arith)

-- TIMERS

numbers_stay : (w : World) (i : ℕ) (e : CoreEvent) (fate : Fate) (o : Option Place) → (emptied_acts w i e fate o).numbers ≡ w.numbers
numbers_stay w i e fate None = refl
numbers_stay w i e fate (Some p) = refl

-- the timers that are left lead where all led at first
pub record IsTimed (first : World) (at : ℕ) (before : List Outcome) (k : ℕ) (now : World) (so_far : List Outcome) : Type 0 where
  pub numbers : now.numbers ≡ first.numbers
  pub rest : IsAtRest now
  pub world : run first (timers first at first.numbers) ≡ run now (timers now at (drop k first.numbers))
  pub told : before ++ told_in first (timers first at first.numbers) ≡ so_far ++ told_in now (timers now at (drop k first.numbers))

pub timed_first : (w : World) (at : ℕ) (told : List Outcome) → IsAtRest w → IsTimed w at told 0 w told
timed_first w at told rest = record { numbers = refl; rest = rest; world = refl; told = refl }

pub timed_more : (first : World) (at : ℕ) (before : List Outcome) (k : ℕ) (now : World) (told : List Outcome) (i : ℕ) (v : World) (told' : List Outcome) → k < length first.numbers → i ≡ get_or first.numbers k i →
    IsTimed first at before k now told → v ≡ run now (event_steps now i (Timer at) Saved) → told' ≡ told ++ told_in now (event_steps now i (Timer at) Saved) → IsTimed first at before (k + 1) v told'
timed_more first at before k now told i v told' within found timed is is_told =
    let steps : List Step = event_steps now i (Timer at) Saved in
    let left : List ℕ = drop (k + 1) first.numbers in
    let here = at_place first.numbers [] k within in
    let its : here.0 ≡ i = sym (found ∙ here.3 i) in
    let next : suc k ≡ k + 1 = omega arith in
    let e : drop k first.numbers ≡ i ∷ left = here.2 ∙ (ap (λ (x : ℕ). x ∷ drop (suc k) first.numbers) its ∙ ap (λ (n : ℕ). i ∷ drop n first.numbers) next) in
    record {
      numbers = ap (λ (u : World). u.numbers) (is ∙ event_ran now i (Timer at) Saved) ∙ (numbers_stay now i (Timer at) Saved (place_at i now.places) ∙ timed.numbers);
      rest = subst IsAtRest (sym is) (event_rests now i (Timer at) Saved timed.rest);
      world = timed.world
          ∙ (ap (λ (xs : List ℕ). run now (timers now at xs)) e
          ∙ (run-append now steps (timers (run now steps) at left) ∙ ap (λ (u : World). run u (timers u at left)) (sym is)));
      told = timed.told
          ∙ (ap (λ (xs : List ℕ). told ++ told_in now (timers now at xs)) e
          ∙ (ap (λ (os : List Outcome). told ++ os) (told_append now steps (timers (run now steps) at left))
          ∙ (sym (append_assoc told (told_in now steps) (told_in (run now steps) (timers (run now steps) at left)))
          ∙ (ap (λ (u : World). (told ++ told_in now steps) ++ told_in u (timers u at left)) (sym is)
          ∙ ap (λ (os : List Outcome). os ++ told_in v (timers v at left)) (sym is_told)))));
    }

-- SENT FRAMES

pub sent_grows : (w : World) (i : ℕ) (e : CoreEvent) (fate : Fate) (o : Option Place) → (more : List Sent) × ((emptied_acts w i e fate o).sent ≡ w.sent ++ more)
sent_grows w i e fate None = ([], sym (append-nil w.sent))
sent_grows w i e fate (Some p) =
    let r = reply_at p e fate in
    let here : List Sent = sent_in r.core.node.me r.answer in
    let then_ : List Sent = given_then w.numbers r.core in
    (here ++ then_, append_assoc w.sent here then_)

-- the frames that are left lead where all led at first, and what is sent meanwhile comes after them
pub record IsDelivered (first : World) (at : ℕ) (before : List Outcome) (k : ℕ) (now : World) (so_far : List Outcome) : Type 0 where
  pub more : List Sent
  pub sent : now.sent ≡ first.sent ++ more
  pub rest : IsAtRest now
  pub world : run first (deliveries first at (drop first.mark first.sent)) ≡ run now (deliveries now at (drop k first.sent))
  pub told : before ++ told_in first (deliveries first at (drop first.mark first.sent)) ≡ so_far ++ told_in now (deliveries now at (drop k first.sent))

pub delivered_first : (w : World) (at : ℕ) (told : List Outcome) → IsAtRest w → IsDelivered w at told w.mark w told
delivered_first w at told rest = record { more = []; sent = sym (append-nil w.sent); rest = rest; world = refl; told = refl }

pub delivered_more : (first : World) (at : ℕ) (before : List Outcome) (k : ℕ) (now : World) (told : List Outcome) (v : World) (told' : List Outcome) → k < length first.sent → IsDelivered first at before k now told →
    v ≡ run now (delivery_of now at (slice_get now.sent k)) → told' ≡ told ++ told_in now (delivery_of now at (slice_get now.sent k)) → IsDelivered first at before (k + 1) v told'
delivered_more first at before k now told v told' within delivered is is_told =
    let here = at_place first.sent delivered.more k within in
    let f : Sent = here.0 in
    let found : slice_get now.sent k ≡ Some f = ap (λ (xs : List Sent). slice_get xs k) delivered.sent ∙ here.1 in
    let steps : List Step = delivery now at f in
    let left : List Sent = drop (k + 1) first.sent in
    let next : suc k ≡ k + 1 = omega arith in
    let e : drop k first.sent ≡ f ∷ left = here.2 ∙ ap (λ (n : ℕ). f ∷ drop n first.sent) next in
    let ran : v ≡ run now steps = is ∙ ap (λ (o : Option Sent). run now (delivery_of now at o)) found in
    let tells : told' ≡ told ++ told_in now steps = is_told ∙ ap (λ (o : Option Sent). told ++ told_in now (delivery_of now at o)) found in
    let grows = sent_grows now f.to (Frame at f.bytes) Saved (place_at f.to now.places) in
    record {
      more = delivered.more ++ grows.0;
      sent = ap (λ (u : World). u.sent) (ran ∙ event_ran now f.to (Frame at f.bytes) Saved) ∙ (grows.1 ∙ (ap (λ (xs : List Sent). xs ++ grows.0) delivered.sent ∙ append_assoc first.sent delivered.more grows.0));
      rest = subst IsAtRest (sym ran) (event_rests now f.to (Frame at f.bytes) Saved delivered.rest);
      world = delivered.world
          ∙ (ap (λ (xs : List Sent). run now (deliveries now at xs)) e
          ∙ (run-append now steps (deliveries (run now steps) at left) ∙ ap (λ (u : World). run u (deliveries u at left)) (sym ran)));
      told = delivered.told
          ∙ (ap (λ (xs : List Sent). told ++ told_in now (deliveries now at xs)) e
          ∙ (ap (λ (os : List Outcome). told ++ os) (told_append now steps (deliveries (run now steps) at left))
          ∙ (sym (append_assoc told (told_in now steps) (told_in (run now steps) (deliveries (run now steps) at left)))
          ∙ (ap (λ (u : World). (told ++ told_in now steps) ++ told_in u (deliveries u at left)) (sym ran)
          ∙ ap (λ (os : List Outcome). os ++ told_in v (deliveries v at left)) (sym tells)))));
    }

-- nothing is told of the mark
pub told_marked : (w : World) (ss : List Step) → told_in w (ss ++ Mark ∷ []) ≡ told_in w ss
told_marked w [] = refl
told_marked w (s ∷ ss) = ap (λ (os : List Outcome). told_of_step w s ++ os) (told_marked (step w s) ss)

-- and then the mark moves to the end
pub delivered_all : (first : World) (at : ℕ) (before : List Outcome) (k : ℕ) (now : World) (told : List Outcome) → length first.sent ≤ k → IsDelivered first at before k now told →
    (marked_world now ≡ run first (steps_at first at what.All)) × (told ≡ before ++ outcomes_at first at what.All)
delivered_all first at before k now told past delivered =
    let none : drop k first.sent ≡ [] = none_left first.sent k past in
    let all : List Step = deliveries first at (drop first.mark first.sent) in (
      ap marked_world (sym (delivered.world ∙ ap (λ (xs : List Sent). run now (deliveries now at xs)) none)) ∙ sym (run-append first all (Mark ∷ [])),
      sym (delivered.told ∙ (ap (λ (xs : List Sent). told ++ told_in now (deliveries now at xs)) none ∙ append-nil told)) ∙ ap (λ (os : List Outcome). before ++ os) (sym (told_marked first all)),
    )
