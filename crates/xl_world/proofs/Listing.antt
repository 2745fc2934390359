-- Every list that is in force at a node, and each under which one reported, is among those of the world.
use Rattle.std.proofs.Common.{◌≡◌, ℕ, Bool, false, List, [], ◌∷◌, ◌++◌, refl, sym, inl, inr, Option, Some, None, subst}
use Rattle.std.specs.Prelude.{◌==◌, All, Contains, map, option_map, option_to_list}
use Rattle.std.proofs.lemmas.Bool.{cond_both, eqb-true}
use Rattle.std.proofs.lemmas.List.Elements.{All-append, All-cons, All-nil, All-weaker, Contains-append_left, Contains-append_right, Contains-push}
use Rattle.xl_io.specs.Keepers.{may_hold}
use Rattle.xl_lists.specs.Lists.{TrustedList}
use Rattle.xl_core.specs.Answers.{Done}
use Rattle.xl_core.specs.Core.{Core, CoreReply, core_reply, core_happens}
use Rattle.xl_core.specs.Node.{Node, Save, at_moment}
use Rattle.xl_core.specs.declared.event.CoreEvent.{CoreEvent}
use Rattle.xl_core.specs.declared.event.CoreEvent.TheVariants.{Issue, Frame, Timer, Submit, Relist}
use Rattle.xl_core.specs.declared.report.Report.{Report}
use Rattle.xl_core.proofs.Timing.{submit_either, relist_either}
use Rattle.xl_world.specs.declared.place.Fate.{Fate}
use Rattle.xl_world.specs.declared.place.Disk.{Disk}
use Rattle.xl_world.specs.declared.place.Place.{Place}
use Rattle.xl_world.specs.declared.plan.InForce.{InForce}
use Rattle.xl_world.specs.declared.plan.PlanNode.{PlanNode}
use Rattle.xl_world.specs.Disk.{answer_of, held_by, restored}
use Rattle.xl_world.specs.Plans.{Shared}
use Rattle.xl_world.specs.Starts.{list_of, start, start_of}
use Rattle.xl_world.specs.World.{World, Step, Act, Again, Torn, Mark, place_at, is_forged, set_by, settled_world, acts, reply_at, disk_after, reported_by, core_again, moment_in, reopened_world, again, torn_world, asked_at, step, run}
use Rattle.xl_world.proofs.Keeping.{core_keeps, frame_keeps, issuing_keeps, timer_keeps}
use Rattle.xl_world.proofs.Seats.{some_same}
use Rattle.xl_world.proofs.Settling.{at_its_number, put_cases}

abbrev pub at_node : ℕ → TrustedList → InForce
at_node i list = record { node = i; list = list }

-- THE LIST OF A CORE

-- where the list stays, it is among those that it was among
stays : (ls : List InForce) (me : ℕ) (old new : TrustedList) → new ≡ old → Contains ls (at_node me old) → Contains (ls ++ []) (at_node me new)
stays ls me old new same has = Contains-append_left ls [] (at_node me new) (subst (λ (l : TrustedList). Contains ls (at_node me l)) (sym same) has)

-- the list in force after an event is the former one, or the one that it set
abbrev Follows : ℕ → TrustedList → Option InForce → TrustedList → Type 0
Follows me old set new = (ls : List InForce) → Contains ls (at_node me old) → Contains (ls ++ option_to_list set) (at_node me new)

core_follows : (core : Core) (e : CoreEvent) (save : Save) → let r : CoreReply = core_happens core e save in Follows core.node.me core.node.list (set_by core.node.me e r.answer) r.core.node.list
core_follows core (Issue now seq id full) save ls has = stays ls core.node.me core.node.list _ (issuing_keeps (at_moment now core.node) seq id full save).5 has
core_follows core (Frame now bytes) save ls has = stays ls core.node.me core.node.list _ (frame_keeps core.node now bytes save).5 has
core_follows core (Timer now) save ls has = stays ls core.node.me core.node.list _ (timer_keeps (at_moment now core.node) save).5 has
core_follows core (Submit now tx) save ls has =
    stays ls core.node.me core.node.list _ (submit_either (λ r. r.node.list ≡ core.node.list) (at_moment now core.node) tx (λ _. refl) refl) has
core_follows core (Relist now list) save ls has =
    let me : ℕ = core.node.me in
    relist_either (λ r. Contains (ls ++ option_to_list (set_by me (Relist now list) r.answer)) (at_node me r.node.list)) (at_moment now core.node) list
    (λ _. stays ls me core.node.list core.node.list refl has) (λ _. Contains-push ls (at_node me list))
core_follows core other save ls has = stays ls core.node.me core.node.list core.node.list refl has

-- A WORLD

pub record HasLists (w : World) : Type 0 where
  pub nodes : (i : ℕ) (p : Place) → place_at i w.places ≡ Some p → Contains w.lists (at_node i p.core.node.list)
  pub reports : All (λ r. Contains w.lists (at_node r.node r.list)) w.reports

reported_under : (ls : List InForce) (n : Node) (o : Option Report) → Contains ls (at_node n.me n.list) → All (λ r. Contains ls (at_node r.node r.list)) (option_to_list (option_map (reported_by n) o))
reported_under ls n None has = All-nil (λ r. Contains ls (at_node r.node r.list))
reported_under ls n (Some q) has = All-cons (λ r. Contains ls (at_node r.node r.list)) (reported_by n q) [] has (All-nil (λ r. Contains ls (at_node r.node r.list)))

settled_lists : (w : World) (i : ℕ) (forged : Bool) (set : Option InForce) (p : Place) (r : CoreReply) (k : Disk) → place_at i w.places ≡ Some p → r.core.node.me ≡ p.core.node.me →
    Follows p.core.node.me p.core.node.list set r.core.node.list → HasLists w → HasLists (settled_world w i forged set r k)
settled_lists w i forged set p r k at same follows has =
    let ls : List InForce = w.lists ++ option_to_list set in
    let before : Contains w.lists (at_node p.core.node.me p.core.node.list) =
    subst (λ (m : ℕ). Contains w.lists (at_node m p.core.node.list)) (sym (at_its_number i w.places p at)) (has.nodes i p at) in
    let now : Contains ls (at_node r.core.node.me r.core.node.list) = subst (λ (m : ℕ). Contains ls (at_node m r.core.node.list)) (sym same) (follows w.lists before) in
    record {
      nodes = λ j x h. elim (put_cases j (record { core = r.core; disk = k }) w.places x h) [
        | inl (same_j, same_x) ↦
            subst (λ (y : Place). Contains ls (at_node j y.core.node.list)) (sym same_x) (subst (λ (m : ℕ). Contains ls (at_node m r.core.node.list)) (sym same_j) now)
        | inr (_, there) ↦ Contains-append_left w.lists (option_to_list set) (at_node j x.core.node.list) (has.nodes j x there)
      ];
      reports = All-append (λ x. Contains ls (at_node x.node x.list)) w.reports (option_to_list (option_map (reported_by r.core.node) r.report))
          (All-weaker (λ x. Contains w.lists (at_node x.node x.list)) (λ x. Contains ls (at_node x.node x.list))
          (λ x. Contains-append_left w.lists (option_to_list set) (at_node x.node x.list)) w.reports has.reports)
          (reported_under ls r.core.node r.report now);
    }

acts_lists : (w : World) (i : ℕ) (e : CoreEvent) (fate : Fate) → HasLists w → (o : Option Place) → place_at i w.places ≡ o → HasLists (acts w i e fate o)
acts_lists w i e fate has None at = has
acts_lists w i e fate has (Some p) at =
    let save : Save = answer_of p.disk fate in
    let r : CoreReply = reply_at p e fate in
    settled_lists w i (is_forged w p.core.node e) (set_by p.core.node.me e r.answer) p r (disk_after p e fate) at (core_keeps p.core e save).0 (core_follows p.core e save) has

again_lists : (w : World) (i now number : ℕ) → HasLists w → (p : Place) → place_at i w.places ≡ Some p → (k : Disk) → HasLists (again w i now number (Some (record { core = p.core; disk = k })))
again_lists w i now number has p at k =
    let q : Place = record { core = p.core; disk = k } in
    cond_both (may_hold (held_by k) number) (reopened_world w i q now number) w HasLists
    (λ _. settled_lists w i false None p (core_reply (core_again q now number) Done) (restored k number) at refl (λ ls. stays ls p.core.node.me p.core.node.list p.core.node.list refl) has) (λ _. has)

step_lists : (w : World) (s : Step) → HasLists w → HasLists (step w s)
step_lists w (Act i e fate) has = acts_lists w i e fate has (place_at i w.places) refl
step_lists w (Again i now number) has = by (place_at i w.places) refl
  where
    by : (o : Option Place) → place_at i w.places ≡ o → HasLists (again w i now number o)
    by None at = has
    by (Some p) at = again_lists w i now number has p at p.disk
step_lists w (Torn i e number) has = by (place_at i w.places) refl (asked_at (place_at i w.places) e)
  where
    by : (o : Option Place) → place_at i w.places ≡ o → (asked : Option ℕ) → HasLists (torn_world w i (moment_in e) number o asked)
    by None at asked = has
    by (Some p) at None = has
    by (Some p) at (Some s) = again_lists w i (moment_in e) number has p at (record p.disk { asked = Some s })
step_lists w Mark has = record { nodes = has.nodes; reports = has.reports }

run_lists : (w : World) (ss : List Step) → HasLists w → HasLists (run w ss)
run_lists w [] has = has
run_lists w (s ∷ ss) has = run_lists (step w s) ss (step_lists w s has)

start_listed : (shared : Shared) (plan : List PlanNode) (i : ℕ) (p : Place) → place_at i (map (start_of shared) plan) ≡ Some p → Contains (map list_of plan) (at_node i p.core.node.list)
start_listed shared [] i p h = cc
start_listed shared (d ∷ ds) i p h =
    let ls : List InForce = list_of d ∷ map list_of ds in
    cond_both (d.me == i) (Some (start_of shared d)) (place_at i (map (start_of shared) ds)) (λ o. o ≡ Some p → Contains ls (at_node i p.core.node.list))
    (λ is here.
    subst (λ (x : Place). Contains ls (at_node i x.core.node.list)) (sym (some_same (start_of shared d) p here))
    (subst (λ (m : ℕ). Contains ls (at_node m d.list)) (eqb-true d.me i is) (Contains-append_left (list_of d ∷ []) (map list_of ds) (list_of d) (Contains-push [] (list_of d)))))
    (λ _ there. Contains-append_right (list_of d ∷ []) (map list_of ds) (at_node i p.core.node.list) (start_listed shared ds i p there)) h

pub run_has_lists : (shared : Shared) (liars : List ℕ) (plan : List PlanNode) (steps : List Step) → HasLists (run (start shared liars plan) steps)
run_has_lists shared liars plan steps =
    run_lists (start shared liars plan) steps
    (record { nodes = start_listed shared plan; reports = All-nil (λ r. Contains (map list_of plan) (at_node r.node r.list)) })
