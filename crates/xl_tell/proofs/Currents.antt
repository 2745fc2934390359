-- In a world that came about, the validations that each node's rows hold are current.
use Rattle.std.proofs.Common.{◌≡◌, ℕ, ◌/◌, List, [], ◌∷◌, map, refl, ap, sym, ◌∙◌, subst, inl, inr, Option, Some, None}
use Rattle.std.specs.Prelude.{◌==◌, max, option_map}
use Rattle.std.proofs.lemmas.Bool.{cond_both}
use Rattle.xl_io.specs.Keepers.{may_hold}
use Rattle.xl_core.specs.declared.event.CoreEvent.{CoreEvent}
use Rattle.xl_core.specs.Core.{Core, core_happens}
use Rattle.xl_core.specs.Node.{Save}
use Rattle.xl_core.specs.State.{least_time}
use Rattle.xl_core.proofs.Beside.{node_or_beside}
use Rattle.xl_core.proofs.Current.{opened_current}
use Rattle.xl_noted.proofs.Currents.{AreCurrent, happens_current}
use Rattle.xl_world.specs.declared.place.Fate.{Fate}
use Rattle.xl_world.specs.declared.place.Place.{Place}
use Rattle.xl_world.specs.declared.plan.PlanNode.{PlanNode}
use Rattle.xl_world.specs.Disk.{answer_of, held_by, restored}
use Rattle.xl_world.specs.Plans.{Shared}
use Rattle.xl_world.specs.Starts.{IsRun, start, start_of}
use Rattle.xl_world.specs.World.{Act, Again, Mark, Step, Torn, World, acts, again, asked_at, core_again, core_in, disk_after, moment_in, place_at, put_place, reopened_world, reply_at, run, step, torn_world}
use Rattle.xl_world.proofs.Seats.{some_same}
use Rattle.xl_world.proofs.Settling.{put_cases}

abbrev pub HoldCurrent : World → Type 0
HoldCurrent w = (i : ℕ) (p : Place) → place_at i w.places ≡ Some p → AreCurrent p.core.node

core_current : (core : Core) (e : CoreEvent) (save : Save) → AreCurrent core.node → AreCurrent (core_happens core e save).core.node
core_current core e save each =
    node_or_beside (λ r. AreCurrent r.core.node) core e save (λ n _. happens_current core.node n save) (λ after a same. subst AreCurrent (sym same) each)

put_current : (w v : World) (q : Place) → v.places ≡ put_place q w.places → AreCurrent q.core.node → HoldCurrent w → HoldCurrent v
put_current w v q is current hold j x h = elim (put_cases j q w.places x (ap (place_at j) (sym is) ∙ h)) [
  | inl (_, same) ↦ subst (λ (y : Place). AreCurrent y.core.node) (sym same) current
  | inr (_, there) ↦ hold j x there
]

-- STEPS

act_current : (w : World) (i : ℕ) (e : CoreEvent) (fate : Fate) → HoldCurrent w → (o : Option Place) → place_at i w.places ≡ o → HoldCurrent (acts w i e fate o)
act_current w i e fate hold None at = hold
act_current w i e fate hold (Some p) at =
    let q : Place = record { core = (reply_at p e fate).core; disk = disk_after p e fate } in
    put_current w (acts w i e fate (Some p)) q refl (core_current p.core e (answer_of p.disk fate) (hold i p at)) hold

again_current : (w : World) (i now number : ℕ) → HoldCurrent w → (o : Option Place) → HoldCurrent (again w i now number o)
again_current w i now number hold None = hold
again_current w i now number hold (Some p) =
    let q : Place = record { core = core_again p now number; disk = restored p.disk number } in
    cond_both (may_hold (held_by p.disk) number) (reopened_world w i p now number) w HoldCurrent
    (λ _. put_current w (reopened_world w i p now number) q refl (opened_current (max least_time now / 1000) p.core.node.list.members) hold) (λ _. hold)

torn_current : (w : World) (i now number : ℕ) → HoldCurrent w → (o : Option Place) (asked : Option ℕ) → HoldCurrent (torn_world w i now number o asked)
torn_current w i now number hold None asked = hold
torn_current w i now number hold (Some p) None = hold
torn_current w i now number hold (Some p) (Some s) = again_current w i now number hold (Some (record { core = p.core; disk = record p.disk { asked = Some s } }))

step_current : (w : World) (s : Step) → HoldCurrent w → HoldCurrent (step w s)
step_current w (Act i e fate) hold = act_current w i e fate hold (place_at i w.places) refl
step_current w (Again i now number) hold = again_current w i now number hold (place_at i w.places)
step_current w (Torn i e number) hold = torn_current w i (moment_in e) number hold (place_at i w.places) (asked_at (place_at i w.places) e)
step_current w Mark hold = hold

run_current : (w : World) (ss : List Step) → HoldCurrent w → HoldCurrent (run w ss)
run_current w [] hold = hold
run_current w (s ∷ ss) hold = run_current (step w s) ss (step_current w s hold)

-- RUNS

start_current : (shared : Shared) (plan : List PlanNode) (i : ℕ) (p : Place) → place_at i (map (start_of shared) plan) ≡ Some p → AreCurrent p.core.node
start_current shared [] i p h = cc
start_current shared (d ∷ ds) i p h =
    cond_both (d.me == i) (Some (start_of shared d)) (place_at i (map (start_of shared) ds)) (λ o. o ≡ Some p → AreCurrent p.core.node)
    (λ _ here. subst (λ (x : Place). AreCurrent x.core.node) (sym (some_same (start_of shared d) p here)) (opened_current (max least_time d.moment / 1000) d.list.members))
    (λ _ there. start_current shared ds i p there) h

came_current : (w : World) → IsRun w → HoldCurrent w
came_current w is = subst HoldCurrent (sym is.5) (run_current (start is.0 w.liars is.1) is.2 (start_current is.0 is.1))

pub none_some : {X : Type 0} (x : X) → None ≡ Some x → ⊥
none_some x e = cc

pub same_core : (x y : Core) → Some x ≡ Some y → x ≡ y
same_core x y e = cc

pub core_is_current : (w : World) → IsRun w → (i : ℕ) (core : Core) → core_in w i ≡ Some core → AreCurrent core.node
core_is_current w is i core there = by_place (place_at i w.places) refl there
  where
    by_place : (o : Option Place) → place_at i w.places ≡ o → option_map (λ (p : Place). p.core) o ≡ Some core → AreCurrent core.node
    by_place None at e = absurd (none_some core e)
    by_place (Some p) at e = subst (λ (c : Core). AreCurrent c.node) (same_core p.core core e) (came_current w is i p at)
