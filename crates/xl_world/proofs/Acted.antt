-- What happens at the place that the code finds happens at the node of its number.
use Rattle.std.proofs.Common.{◌≡◌, ℕ, List, [], get_or, set, ap, sym, subst, ◌∙◌, Option, Some, None}
use Rattle.std.specs.Prelude.{◌==◌, position}
use Rattle.xl_core.specs.declared.deed.Deed.{Deed}
use Rattle.xl_core.specs.declared.event.CoreEvent.{CoreEvent}
use Rattle.xl_world.specs.declared.act.NodeAnswer.{NodeAnswer}
use Rattle.xl_world.specs.declared.place.Fate.{Fate}
use Rattle.xl_world.specs.declared.place.Place.{Place}
use Rattle.xl_world.specs.Emptying.{event_steps}
use Rattle.xl_world.specs.Schedule.{told_in}
use Rattle.xl_world.specs.Rested.{IsAtRest, IsRested}
use Rattle.xl_world.specs.Seen.{Answers, AnswersAt, IsAnswer, MayDo, acted_at, after_note, outcomes_told, place_after, with_forged, with_places}
use Rattle.xl_world.specs.World.{World, place_at, reply_at, run, sent_in}
use Rattle.xl_world.proofs.Acting.{acted_rests, noted_ran}
use Rattle.xl_world.proofs.Emptying.{emptied_acts, event_ran}
use Rattle.xl_world.proofs.Places.{acted_there, answered_there, found_there, none_there}
use Rattle.xl_world.proofs.Settling.{at_its_number}
use Rattle.xl_world.proofs.Telling.{told_nothing, told_ran}

-- THE PLACE THAT IS FOUND

-- the code has the world as u, and found this place in it
pub record IsFound (w u : World) (i k : ℕ) (p : Place) : Type 0 where
  pub same : u ≡ w
  pub first : position (λ p. p.core.node.me == i) u.places ≡ Some k
  pub there : p ≡ get_or u.places k p

pub found_in : (w u : World) (i k : ℕ) (p : Place) (ps : List Place) → u ≡ w → Some k ≡ position (λ p. p.core.node.me == i) ps → ps ≡ u.places → p ≡ get_or u.places k p → IsFound w u i k p
found_in w u i k p ps same found are there = record { same = same; first = sym (found ∙ ap (position (λ p. p.core.node.me == i)) are); there = there }

pub found_place : (w u : World) (i k : ℕ) (p : Place) → IsFound w u i k p → place_at i w.places ≡ Some p
found_place w u i k p found =
    ap (λ (v : World). place_at i v.places) (sym found.same) ∙ (found_there u.places i k p found.first ∙ ap (λ (x : Place). Some x) (sym found.there))

pub found_number : (w u : World) (i k : ℕ) (p : Place) → IsFound w u i k p → p.core.node.me ≡ i
found_number w u i k p found = at_its_number i w.places p (found_place w u i k p found)

pub found_may : (w u : World) (i k : ℕ) (p : Place) (d : Deed) → IsFound w u i k p → MayDo i d → MayDo p.core.node.me d
found_may w u i k p d found may = subst (λ (m : ℕ). MayDo m d) (sym (found_number w u i k p found)) may

-- the places after an event there, and what the node of the number answered
pub record IsActed (w : World) (i : ℕ) (e : CoreEvent) (fate : Fate) (after : List Place) (a : NodeAnswer) : Type 0 where
  pub places : after ≡ acted_at i e fate w.places
  pub answer : AnswersAt i e fate w.places (Some a)

pub found_acted : (w u : World) (i k : ℕ) (p : Place) (event : ℕ → CoreEvent) (fate : Fate) (q : Place) (a : NodeAnswer) → IsFound w u i k p → q ≡ place_after p (event p.core.node.me) fate →
    IsAnswer p (event p.core.node.me) fate a → IsActed w i (event i) fate (set u.places k q) a
found_acted w u i k p event fate q a found is is_answer =
    let e : CoreEvent = event i in
    let its : p.core.node.me ≡ i = found_number w u i k p found in
    let same : u.places ≡ w.places = ap (λ (v : World). v.places) found.same in
    let after : q ≡ place_after (get_or u.places k p) e fate = is ∙ (ap (λ (m : ℕ). place_after p (event m) fate) its ∙ ap (λ (x : Place). place_after x e fate) found.there) in
    let its_answer : IsAnswer p e fate a = subst (λ (m : ℕ). IsAnswer p (event m) fate a) its is_answer in
    record {
      places = acted_there u.places i k e fate p q found.first after ∙ ap (acted_at i e fate) same;
      answer = subst (λ (ps : List Place). AnswersAt i e fate ps (Some a)) same (answered_there u.places i k e fate p a found.first (subst (λ (x : Place). IsAnswer x e fate a) found.there its_answer));
    }

pub acted_rest : (w : World) (i : ℕ) (e : CoreEvent) (fate : Fate) (after : List Place) (a : NodeAnswer) → IsActed w i e fate after a → IsAtRest w → (p : Place) → place_at i after ≡ Some p → IsRested p.core
acted_rest w i e fate after a acted rest p h = acted_rests w i e fate rest p (ap (place_at i) (sym acted.places) ∙ h)

-- that is noted as the steps of the event leave it
pub acted_ran : (w u : World) (i : ℕ) (e : CoreEvent) (fate : Fate) (after : List Place) (a : NodeAnswer) → u ≡ w → IsActed w i e fate after a → ((p : Place) (from : ℕ) → sent_in from (reply_at p e fate).answer ≡ []) →
    after_note (with_places u after) i a ≡ with_forged w.forged (run w (event_steps w i e fate))
acted_ran w u i e fate after a same acted unsent =
    ap (λ (v : World). after_note (with_places v after) i a) same
    ∙ (ap (λ (ps : List Place). after_note (with_places w ps) i a) acted.places ∙ noted_ran w i e fate a acted.answer unsent)

pub acted_told : (w : World) (i : ℕ) (e : CoreEvent) (fate : Fate) (after : List Place) (a : NodeAnswer) → IsActed w i e fate after a → outcomes_told i a ≡ told_in w (event_steps w i e fate)
acted_told w i e fate after a acted = told_ran w i e fate a acted.answer

-- NO PLACE

pub absent : (w u : World) (i : ℕ) (ps : List Place) → u ≡ w → position (λ p. p.core.node.me == i) ps ≡ None → ps ≡ u.places → place_at i w.places ≡ None
absent w u i ps same none are =
    ap (λ (v : World). place_at i v.places) (sym same) ∙ (ap (place_at i) (sym are) ∙ none_there ps i none)

-- nothing happens there
pub absent_stays : (w : World) (i : ℕ) (e : CoreEvent) (fate : Fate) → place_at i w.places ≡ None → w ≡ run w (event_steps w i e fate)
absent_stays w i e fate none = sym (event_ran w i e fate ∙ ap (emptied_acts w i e fate) none)

pub absent_ran : (w : World) (i : ℕ) (e : CoreEvent) (fate : Fate) → place_at i w.places ≡ None → w ≡ with_forged w.forged (run w (event_steps w i e fate))
absent_ran w i e fate none = ap (λ (v : World). with_forged w.forged v) (absent_stays w i e fate none)

-- and nothing is told
pub absent_told : (w : World) (i : ℕ) (e : CoreEvent) (fate : Fate) → place_at i w.places ≡ None → told_in w (event_steps w i e fate) ≡ []
absent_told w i e fate none = told_nothing w i e fate (subst (λ (o : Option Place). Answers e fate o None) (sym none) tt)
