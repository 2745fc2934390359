-- A world at rest stays so: no report is untaken between two events.
use Rattle.std.proofs.Common.{◌≡◌, ℕ, zero, suc, ◌+◌, ◌<◌, ◌≤◌, Bool, List, [], ◌∷◌, drop, filter, map, refl, arith, ap, sym, ◌∙◌, inl, inr, Option, Some, None, subst}
use Rattle.std.specs.Prelude.{◌==◌}
use Rattle.std.proofs.lemmas.Bool.{cond_both}
use Rattle.xl_queues.specs.Queues.{Backlog, with_item}
use Rattle.xl_core.specs.Core.{Core, CoreReply, core_happens}
use Rattle.xl_core.specs.Node.{Node, Save, happens}
use Rattle.xl_core.proofs.Beside.{node_or_other}
use Rattle.xl_core.specs.Queues.{with_report}
use Rattle.xl_core.specs.declared.event.CoreEvent.{CoreEvent}
use Rattle.xl_core.specs.declared.report.Report.{Report}
use Rattle.xl_tags.specs.Rings.{schedule_ring}
use Rattle.xl_world.specs.declared.place.Fate.{Fate}
use Rattle.xl_world.specs.declared.place.Place.{Place}
use Rattle.xl_world.specs.declared.plan.PlanNode.{PlanNode}
use Rattle.xl_world.specs.Emptying.{drains_of, event_steps, handed_out}
use Rattle.xl_world.specs.Disk.{answer_of}
use Rattle.xl_world.specs.Plans.{Shared, all_numbers, is_declared, up_from}
use Rattle.xl_world.specs.Rested.{Between, IsAtRest, IsRested}
use Rattle.xl_world.specs.Starts.{start, start_of}
use Rattle.xl_world.specs.World.{World, disk_after, place_at, put_place, reply_at, run}
use Rattle.xl_world.proofs.Emptying.{emptied, emptied_acts, emptied_node, event_ran, turns_are, untaken_still}
use Rattle.xl_world.proofs.Keeping.{core_keeps}
use Rattle.xl_world.proofs.Seats.{some_same}
use Rattle.xl_world.proofs.Settling.{put_cases}

-- a report alone was untaken
taken_then : (q : Backlog Report) (o : Option Report) → q.items ≡ [] → drop 1 (with_report q o).items ≡ []
taken_then q None none = ap (drop 1) none
taken_then q (Some report) none = ap (λ (xs : List Report). drop 1 (let x : Backlog Report = with_item 1024 (record { items = xs; lost = 0 }) report in x.items)) none

dropped_twice : (room : ℕ) (xs : List Report) → xs ≡ [] → drop 1 (drop room xs) ≡ []
dropped_twice zero xs none = ap (drop 1) none
dropped_twice (suc room) xs none = ap (λ (ys : List Report). drop 1 (drop (suc room) ys)) none

-- after what happened none is, once the one that arose was handed out
pub taken_after : (core : Core) (e : CoreEvent) (save : Save) → core.untaken.items ≡ [] → (handed_out (core_happens core e save).core).untaken.items ≡ []
taken_after core e save none =
    node_or_other (λ r. (handed_out r.core).untaken.items ≡ []) core e save (λ n _. taken_then core.untaken (happens core.node n save).report none)
    (λ after a _ untaken _. ap (λ (q : Backlog Report). drop 1 q.items) untaken ∙ ap (drop 1) none) (λ room. dropped_twice room core.untaken.items none)

pub rested_after : (core : Core) (e : CoreEvent) (save : Save) → IsRested core → IsRested (handed_out (core_happens core e save).core)
rested_after core e save rested =
    let keyed = core_keeps core e save in
    record { untaken = taken_after core e save rested.untaken; keys = keyed.1 ∙ (rested.keys ∙ ap schedule_ring (sym keyed.0)) }

-- and once it is emptied
emptied_rests : (numbers : List ℕ) (core : Core) → IsRested (handed_out core) → IsRested (emptied numbers core)
emptied_rests numbers core rested =
    let node : (emptied numbers core).node ≡ core.node = emptied_node numbers core in
    record {
      untaken = ap (λ (q : Backlog Report). q.items) (untaken_still (handed_out core) (drains_of numbers (handed_out core)) (turns_are (handed_out core) _)) ∙ rested.untaken;
      keys = ap (λ (n : Node). n.keys) node ∙ (rested.keys ∙ ap schedule_ring (sym (ap (λ (n : Node). n.me) node)));
    }

-- A WORLD

-- with a place that rests
pub put_rests : (w v : World) (q : Place) → v.numbers ≡ w.numbers → v.places ≡ put_place q w.places → IsRested q.core → IsAtRest w → IsAtRest v
put_rests w v q numbers is rested rest = record {
  numbers = subst (Between 0) (sym numbers) rest.numbers;
  cores = λ j x h. elim (put_cases j q w.places x (ap (place_at j) (sym is) ∙ h)) [
    | inl (_, same) ↦ subst (λ (y : Place). IsRested y.core) (sym same) rested
    | inr (_, there) ↦ rest.cores j x there
  ];
}

-- after the steps of an event
pub event_rests : (w : World) (i : ℕ) (e : CoreEvent) (fate : Fate) → IsAtRest w → IsAtRest (run w (event_steps w i e fate))
event_rests w i e fate rest = subst IsAtRest (sym (event_ran w i e fate)) (by_place (place_at i w.places) refl)
  where
    by_place : (o : Option Place) → place_at i w.places ≡ o → IsAtRest (emptied_acts w i e fate o)
    by_place None at = rest
    by_place (Some p) at =
        let r : CoreReply = reply_at p e fate in
        let q : Place = record { core = emptied w.numbers r.core; disk = disk_after p e fate } in
        put_rests w (emptied_acts w i e fate (Some p)) q refl refl (emptied_rests w.numbers r.core (rested_after p.core e (answer_of p.disk fate) (rest.cores i p at))) rest

-- AT THE START

between_from : (low low' : ℕ) (ms : List ℕ) → low' ≤ low → Between low ms → Between low' ms
between_from low low' [] le rising = tt
between_from low low' (m ∷ ms) le rising = (omega (arith, le, rising.0), rising.1, rising.2)

between_filter : (p : ℕ → Bool) (low : ℕ) (ms : List ℕ) → Between low ms → Between low (filter p ms)
between_filter p low [] rising = tt
between_filter p low (m ∷ ms) rising =
    cond_both (p m) (m ∷ filter p ms) (filter p ms) (Between low) (λ _. (rising.0, rising.1, between_filter p m ms rising.2))
    (λ _. between_from m low (filter p ms) (omega (arith, rising.0)) (between_filter p m ms rising.2))

up_between : (n k : ℕ) → n + k ≤ 65 → (low : ℕ) → low < n → Between low (up_from n k)
unfolding up_from
up_between n zero le low less = tt
up_between n (suc k) le low less = (less, omega (arith, le), up_between (n + 1) k (omega (arith, le)) n (omega arith))

all_opened : (shared : Shared) (plan : List PlanNode) (i : ℕ) (p : Place) → place_at i (map (start_of shared) plan) ≡ Some p → IsRested p.core
all_opened shared [] i p h = cc
all_opened shared (d ∷ ds) i p h =
    cond_both (d.me == i) (Some (start_of shared d)) (place_at i (map (start_of shared) ds)) (λ o. o ≡ Some p → IsRested p.core)
    (λ _ here. subst (λ (x : Place). IsRested x.core) (sym (some_same (start_of shared d) p here)) (record { untaken = refl; keys = refl }))
    (λ _ there. all_opened shared ds i p there) h

pub start_rests : (shared : Shared) (liars : List ℕ) (plan : List PlanNode) → IsAtRest (start shared liars plan)
start_rests shared liars plan = record {
  numbers = between_filter (is_declared liars plan) 0 all_numbers (up_between 1 64 (omega arith) 0 (omega arith));
  cores = all_opened shared plan;
}
