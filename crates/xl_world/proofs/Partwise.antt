-- One delivery or one node's timer after the other is the whole event.
use Rattle.std.proofs.Common.{◌≡◌, ℕ, zero, suc, ◌+◌, ◌-◌, List, [], ◌∷◌, ◌++◌, length, drop, refl, arith, ap, sym, ◌∙◌, subst, Option, Some, append_assoc, append-nil}
use Rattle.std.specs.Prelude.{map, slice_get}
use Rattle.xl_core.specs.declared.event.CoreEvent.TheVariants.{Frame, Timer}
use Rattle.xl_sched.specs.declared.event.Event.{Event}
use Rattle.xl_sched.specs.declared.event.What.{What}
use Rattle.xl_sched.specs.declared.event.What.TheVariants as what
use Rattle.xl_world.specs.declared.outcome.Outcome.{Outcome}
use Rattle.xl_world.specs.declared.place.Fate.TheVariants.{Saved}
use Rattle.xl_world.specs.Emptying.{event_steps}
use Rattle.xl_world.specs.Parts.{AreWhole, after_events, delivery_at, drop_at, outcomes_in, parts_of, timer_at}
use Rattle.xl_world.specs.Plans.{up_from}
use Rattle.xl_world.specs.Schedule.{after_event, deliveries, delivery, delivery_of, frame_at, outcomes, timers, told_in}
use Rattle.xl_world.specs.Sending.{Sent}
use Rattle.xl_world.specs.World.{Mark, Step, World, place_at, run}
use Rattle.xl_world.proofs.Emptying.{event_ran}
use Rattle.xl_world.proofs.Going.{at_place, none_left, sent_grows, told_marked}
use Rattle.xl_world.proofs.Runs.{run-append}
use Rattle.xl_world.proofs.Telling.{told_append}

-- these events lead to the world of these steps, and tell what they tell
record AreSteps (w : World) (es : List Event) (ss : List Step) : Type 0 where
  pub world : after_events w es ≡ run w ss
  pub told : outcomes_in w es ≡ told_in w ss

-- an event that is these steps, and then these events
then_steps : (w : World) (e : Event) (es : List Event) (ss ts : List Step) → after_event w e ≡ run w ss → outcomes w e ≡ told_in w ss → AreSteps (run w ss) es ts → AreSteps w (e ∷ es) (ss ++ ts)
then_steps w e es ss ts is tells rest = record {
  world = ap (λ (u : World). after_events u es) is ∙ (rest.world ∙ sym (run-append w ss ts));
  told =
      ap (λ (os : List Outcome). os ++ outcomes_in (after_event w e) es) tells
      ∙ (ap (λ (u : World). told_in w ss ++ outcomes_in u es) is
      ∙ (ap (λ (os : List Outcome). told_in w ss ++ os) rest.told ∙ sym (told_append w ss ts)));
}

-- TIMERS

timers_parts : (w : World) (at : ℕ) (is : List ℕ) → AreSteps w (map (timer_at at) is) (timers w at is)
timers_parts w at [] = record { world = refl; told = refl }
timers_parts w at (i ∷ is) =
    let steps : List Step = event_steps w i (Timer at) Saved in
    then_steps w (timer_at at i) (map (timer_at at) is) steps (timers (run w steps) at is) refl refl (timers_parts (run w steps) at is)

-- DELIVERIES

-- the frames from a place on, whatever is sent meanwhile
deliveries_parts : (w : World) (at : ℕ) (first more : List Sent) (k m : ℕ) → m ≡ length first - k → w.sent ≡ first ++ more → AreSteps w (map (delivery_at at) (up_from (k + 1) m)) (deliveries w at (drop k first))
unfolding up_from
deliveries_parts w at first more k zero left sent =
    subst (λ (fs : List Sent). AreSteps w [] (deliveries w at fs)) (sym (none_left first k (omega (arith, left)))) (record { world = refl; told = refl })
deliveries_parts w at first more k (suc m) left sent =
    let here = at_place first more k (omega (arith, left)) in
    let f : Sent = here.0 in
    let steps : List Step = delivery w at f in
    let next : k + 1 ≡ suc k = omega arith in
    let found : frame_at w.sent (k + 1) ≡ Some f = ap (frame_at w.sent) next ∙ (ap (λ (xs : List Sent). slice_get xs k) sent ∙ here.1) in
    let grows = sent_grows w f.to (Frame at f.bytes) Saved (place_at f.to w.places) in
    let sent_then : (run w steps).sent ≡ first ++ (more ++ grows.0) =
    ap (λ (u : World). u.sent) (event_ran w f.to (Frame at f.bytes) Saved) ∙ (grows.1 ∙ (ap (λ (xs : List Sent). xs ++ grows.0) sent ∙ append_assoc first more grows.0)) in
    let rest : AreSteps (run w steps) (map (delivery_at at) (up_from (k + 1 + 1) m)) (deliveries (run w steps) at (drop (suc k) first)) =
    subst (λ (n : ℕ). AreSteps (run w steps) (map (delivery_at at) (up_from (n + 1) m)) (deliveries (run w steps) at (drop (suc k) first))) (sym next)
    (deliveries_parts (run w steps) at first (more ++ grows.0) (suc k) m (omega (arith, left)) sent_then) in
    subst (λ (fs : List Sent). AreSteps w (delivery_at at (k + 1) ∷ map (delivery_at at) (up_from (k + 1 + 1) m)) (deliveries w at fs)) (sym here.2)
    (then_steps w (delivery_at at (k + 1)) (map (delivery_at at) (up_from (k + 1 + 1) m)) steps (deliveries (run w steps) at (drop (suc k) first))
    (ap (λ (o : Option Sent). run w (delivery_of w at o)) found) (ap (λ (o : Option Sent). told_in w (delivery_of w at o)) found) rest)

-- and then the mark moves to the end
marked_parts : (w : World) (at : ℕ) (es : List Event) (ss : List Step) → AreSteps w es ss → AreSteps w (es ++ drop_at at ∷ []) (ss ++ Mark ∷ [])
marked_parts w at es ss are = record {
  world = events_then w es (drop_at at ∷ []) ∙ (ap (λ (u : World). after_events u (drop_at at ∷ [])) are.world ∙ sym (run-append w ss (Mark ∷ [])));
  told =
      outcomes_then w es (drop_at at ∷ [])
      ∙ (append-nil (outcomes_in w es) ∙ (are.told ∙ sym (told_marked w ss)));
}
  where
    events_then : (u : World) (es fs : List Event) → after_events u (es ++ fs) ≡ after_events (after_events u es) fs
    events_then u [] fs = refl
    events_then u (e ∷ es) fs = events_then (after_event u e) es fs

    outcomes_then : (u : World) (es fs : List Event) → outcomes_in u (es ++ fs) ≡ outcomes_in u es ++ outcomes_in (after_events u es) fs
    outcomes_then u [] fs = refl
    outcomes_then u (e ∷ es) fs =
        ap (λ (os : List Outcome). outcomes u e ++ os) (outcomes_then (after_event u e) es fs) ∙ sym (append_assoc (outcomes u e) (outcomes_in (after_event u e) es) (outcomes_in (after_events (after_event u e) es) fs))

-- ALL

whole_all : (w : World) (at : ℕ) → AreWhole w (record { at = at; what = what.All })
whole_all w at =
    let are = marked_parts w at _ _ (deliveries_parts w at w.sent [] w.mark (length w.sent - w.mark) refl (sym (append-nil w.sent))) in
    record { world = are.world; told = are.told }

whole_timers : (w : World) (at : ℕ) → AreWhole w (record { at = at; what = what.Timers })
whole_timers w at = let are = timers_parts w at w.numbers in record { world = are.world; told = are.told }

whole_one : (w : World) (e : Event) → parts_of w e ≡ e ∷ [] → AreWhole w e
whole_one w e one = record {
  world = ap (after_events w) one;
  told = ap (outcomes_in w) one ∙ append-nil (outcomes w e);
}

whole_at : (w : World) (at : ℕ) (happening : What) → AreWhole w (record { at = at; what = happening })
whole_at w at what.All = whole_all w at
whole_at w at what.Timers = whole_timers w at
whole_at w at (what.Ask ask) = whole_one w (record { at = at; what = what.Ask ask }) refl
whole_at w at (what.Submit node tx) = whole_one w (record { at = at; what = what.Submit node tx }) refl
whole_at w at (what.Deliver place) = whole_one w (record { at = at; what = what.Deliver place }) refl
whole_at w at what.Drop = whole_one w (record { at = at; what = what.Drop }) refl
whole_at w at (what.Greet node peer) = whole_one w (record { at = at; what = what.Greet node peer }) refl
whole_at w at (what.Restart node) = whole_one w (record { at = at; what = what.Restart node }) refl
whole_at w at (what.Cut new ask) = whole_one w (record { at = at; what = what.Cut new ask }) refl
whole_at w at (what.Fail new ask) = whole_one w (record { at = at; what = what.Fail new ask }) refl
whole_at w at (what.Lie from to lie) = whole_one w (record { at = at; what = what.Lie from to lie }) refl
whole_at w at (what.Raw to bytes) = whole_one w (record { at = at; what = what.Raw to bytes }) refl
whole_at w at (what.Prefer node) = whole_one w (record { at = at; what = what.Prefer node }) refl
whole_at w at (what.List node list) = whole_one w (record { at = at; what = what.List node list }) refl
whole_at w at (what.Heard node) = whole_one w (record { at = at; what = what.Heard node }) refl

pub parts_are_the_whole : (w : World) (e : Event) → AreWhole w e
parts_are_the_whole w e = whole_at w e.at e.what
