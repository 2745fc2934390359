-- Which lists come into force in a world.
use Rattle.std.proofs.Common.{◌≡◌, ℕ, List, [], ◌∷◌, ◌++◌, refl, sym, subst, Option, Some, None}
use Rattle.std.specs.Prelude.{All, map, option_to_list, unwrap_or}
use Rattle.std.proofs.lemmas.List.{map-append}
use Rattle.std.proofs.lemmas.List.Elements.{All-append, All-cons, All-nil}
use Rattle.xl_core.specs.Answers.{Answer}
use Rattle.xl_core.specs.Answers as answer
use Rattle.xl_core.specs.declared.event.CoreEvent.TheVariants.{Relist}
use Rattle.xl_lists.specs.Lists.{TrustedList}
use Rattle.xl_running.specs.Running.{Running, declares, world_of}
use Rattle.xl_sched.specs.declared.event.Event.{Event}
use Rattle.xl_sched.specs.declared.event.What.{What}
use Rattle.xl_sched.specs.declared.event.What.TheVariants as what
use Rattle.xl_sched.specs.declared.line.Line.{Line}
use Rattle.xl_sched.specs.declared.line.Line.TheVariants as line
use Rattle.xl_world.specs.declared.place.Fate.TheVariants.{Saved}
use Rattle.xl_world.specs.declared.place.Place.{Place}
use Rattle.xl_world.specs.declared.plan.InForce.{InForce}
use Rattle.xl_world.specs.declared.plan.PlanNode.{PlanNode}
use Rattle.xl_world.specs.Plans.{Shared}
use Rattle.xl_world.specs.Schedule.{after_event, steps_at}
use Rattle.xl_world.specs.Starts.{list_of, start}
use Rattle.xl_world.specs.World.{World, list_set, place_at, reply_at, run, set_by}
use Rattle.xl_world.proofs.Emptying.{emptied_acts, event_ran}
use Rattle.xl_world.proofs.Settling.{at_its_number}
use Rattle.xl_world.proofs.Unlisted.{lists_stay}

-- whatever is asked of a list that comes into force at the node of a number
abbrev pub OfInForce : (ℕ → TrustedList → Type 0) → InForce → Type 0
OfInForce P f = P f.node f.list

abbrev pub IfListed : (ℕ → TrustedList → Type 0) → What → Type 0
IfListed P (what.List node list) = P node list
IfListed P happening = Unit {0}

abbrev pub IfDeclared : (ℕ → TrustedList → Type 0) → Line → Type 0
IfDeclared P (line.Node me list validating) = P me list
IfDeclared P l = Unit {0}

module _ (P : ℕ → TrustedList → Type 0) where
  set_has : (i : ℕ) (list : TrustedList) (a : Answer) → P i list → All (OfInForce P) (option_to_list (list_set i list a))
  set_has i list (answer.Refused why) has = All-nil (OfInForce P)
  set_has i list other has = All-cons (OfInForce P) (record { node = i; list = list }) [] has (All-nil (OfInForce P))

  relisted : (w : World) (at node : ℕ) (list : TrustedList) → P node list → All (OfInForce P) w.lists → All (OfInForce P) (run w (steps_at w at (what.List node list))).lists
  relisted w at node list has all =
      subst (λ (v : World). All (OfInForce P) v.lists) (sym (event_ran w node (Relist at list) Saved)) (by (place_at node w.places) refl)
    where
      by : (o : Option Place) → place_at node w.places ≡ o → All (OfInForce P) (emptied_acts w node (Relist at list) Saved o).lists
      by None there = all
      by (Some p) there =
          let a : Answer = (reply_at p (Relist at list) Saved).answer in
          All-append (OfInForce P) w.lists (option_to_list (set_by p.core.node.me (Relist at list) a)) all
          (set_has p.core.node.me list a (subst (λ (m : ℕ). P m list) (sym (at_its_number node w.places p there)) has))

  -- an event sets no list but the one that it hands in
  happened_lists : (w : World) (at : ℕ) (happening : What) → IfListed P happening → All (OfInForce P) w.lists → All (OfInForce P) (run w (steps_at w at happening)).lists
  happened_lists w at (what.Ask ask) has all = subst (All (OfInForce P)) (sym (lists_stay w at (what.Ask ask) tt)) all
  happened_lists w at what.Timers has all = subst (All (OfInForce P)) (sym (lists_stay w at what.Timers tt)) all
  happened_lists w at (what.Submit node tx) has all = subst (All (OfInForce P)) (sym (lists_stay w at (what.Submit node tx) tt)) all
  happened_lists w at (what.Deliver place) has all = subst (All (OfInForce P)) (sym (lists_stay w at (what.Deliver place) tt)) all
  happened_lists w at what.All has all = subst (All (OfInForce P)) (sym (lists_stay w at what.All tt)) all
  happened_lists w at what.Drop has all = subst (All (OfInForce P)) (sym (lists_stay w at what.Drop tt)) all
  happened_lists w at (what.Greet node peer) has all = subst (All (OfInForce P)) (sym (lists_stay w at (what.Greet node peer) tt)) all
  happened_lists w at (what.Restart node) has all = subst (All (OfInForce P)) (sym (lists_stay w at (what.Restart node) tt)) all
  happened_lists w at (what.Cut new ask) has all = subst (All (OfInForce P)) (sym (lists_stay w at (what.Cut new ask) tt)) all
  happened_lists w at (what.Fail new ask) has all = subst (All (OfInForce P)) (sym (lists_stay w at (what.Fail new ask) tt)) all
  happened_lists w at (what.List node list) has all = relisted w at node list has all
  happened_lists w at (what.Lie from to lie) has all = subst (All (OfInForce P)) (sym (lists_stay w at (what.Lie from to lie) tt)) all
  happened_lists w at (what.Raw to bytes) has all = subst (All (OfInForce P)) (sym (lists_stay w at (what.Raw to bytes) tt)) all
  happened_lists w at (what.Prefer node) has all = subst (All (OfInForce P)) (sym (lists_stay w at (what.Prefer node) tt)) all
  happened_lists w at (what.Heard node) has all = subst (All (OfInForce P)) (sym (lists_stay w at (what.Heard node) tt)) all

  pub event_lists : (w : World) (e : Event) → IfListed P e.what → All (OfInForce P) w.lists → All (OfInForce P) (after_event w e).lists
  event_lists w e has all = happened_lists w e.at e.what has all

  -- and a line no list but the one that it declares
  same_plan : (r : Running) (shared : Shared) (liars : List ℕ) (o : Option World) → r.world ≡ o → All (OfInForce P) (world_of r).lists → All (OfInForce P) (unwrap_or r.world (start shared liars r.plan)).lists
  same_plan r shared liars None at all =
      subst (λ (x : Option World). All (OfInForce P) (unwrap_or x (start shared liars r.plan)).lists) (sym at)
      (subst (λ (x : Option World). All (OfInForce P) (unwrap_or x (start r.shared r.liars r.plan)).lists) at all)
  same_plan r shared liars (Some w) at all =
      subst (λ (x : Option World). All (OfInForce P) (unwrap_or x (start shared liars r.plan)).lists) (sym at)
      (subst (λ (x : Option World). All (OfInForce P) (unwrap_or x (start r.shared r.liars r.plan)).lists) at all)

  more_plan : (r : Running) (d : PlanNode) → P d.me d.list → (o : Option World) → r.world ≡ o → All (OfInForce P) (world_of r).lists → All (OfInForce P) (unwrap_or r.world (start r.shared r.liars (r.plan ++ d ∷ []))).lists
  more_plan r d has None at all =
      subst (λ (x : Option World). All (OfInForce P) (unwrap_or x (start r.shared r.liars (r.plan ++ d ∷ []))).lists) (sym at)
      (subst (All (OfInForce P)) (sym (map-append list_of r.plan (d ∷ [])))
      (All-append (OfInForce P) (map list_of r.plan) (list_of d ∷ []) (subst (λ (x : Option World). All (OfInForce P) (unwrap_or x (start r.shared r.liars r.plan)).lists) at all)
      (All-cons (OfInForce P) (list_of d) [] has (All-nil (OfInForce P)))))
  more_plan r d has (Some w) at all =
      subst (λ (x : Option World). All (OfInForce P) (unwrap_or x (start r.shared r.liars (r.plan ++ d ∷ []))).lists) (sym at)
      (subst (λ (x : Option World). All (OfInForce P) (unwrap_or x (start r.shared r.liars r.plan)).lists) at all)

  pub declared_lists : (r : Running) (l : Line) → IfDeclared P l → All (OfInForce P) (world_of r).lists → All (OfInForce P) (world_of (declares r l)).lists
  declared_lists r (line.Limit limit) has all = same_plan r (record r.shared { limit = limit }) r.liars r.world refl all
  declared_lists r (line.Speak version) has all = same_plan r (record r.shared { speak = version }) r.liars r.world refl all
  declared_lists r (line.Node me list validating) has all =
      more_plan r (record { me = me; list = list; validating = validating; moment = r.reading.now }) has r.world refl all
  declared_lists r (line.Liar me) has all = same_plan r r.shared (r.liars ++ me ∷ []) r.world refl all
  declared_lists r other has all = all
