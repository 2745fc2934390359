-- Each reporting node is a member, and the list of its report was in force.
use Rattle.std.proofs.Common.{◌≡◌, ℕ, ◌≤◌, Bool, true, false, List, [], ◌∷◌, refl, ap, sym, ◌∙◌, Option, Some, None, subst}
use Rattle.std.specs.Prelude.{◌==◌, ◌↔◌, All, Contains, map, find, option_map, option_to_list, is_some}
use Rattle.std.proofs.lemmas.Bool.{cond_both, cond-true, cond-false, eqb-true}
use Rattle.std.proofs.lemmas.List.Elements.{All-append, All-cons, All-head, All-nil, All-tail, All-weaker}
use Rattle.xl_lists.specs.Lists.{TrustedList}
use Rattle.xl_lists.specs.declared.report.Report.{Report as Reported}
use Rattle.xl_core.specs.Answers.{Done}
use Rattle.xl_core.specs.Core.{CoreReply, core_reply}
use Rattle.xl_core.specs.Node.{Node}
use Rattle.xl_core.specs.declared.report.Report.{Report}
use Rattle.xl_world.specs.declared.place.Disk.{Disk}
use Rattle.xl_core.specs.declared.event.CoreEvent.{CoreEvent}
use Rattle.xl_world.specs.declared.place.Place.{Place}
use Rattle.xl_world.specs.declared.plan.InForce.{InForce}
use Rattle.xl_world.specs.declared.plan.PlanNode.{PlanNode}
use Rattle.xl_world.specs.declared.place.Fate.{Fate}
use Rattle.xl_io.specs.Keepers.{may_hold}
use Rattle.xl_world.specs.Disk.{answer_of, held_by, restored}
use Rattle.xl_world.specs.Plans.{IsDeclared, AreDeclared, Shared, list_at}
use Rattle.xl_world.specs.World.{World, Step, Act, Again, Torn, Mark, place_at, put_place, is_forged, settled_world, acts, reply_at, disk_after, reported_by, set_by, core_again, moment_in, reopened_world, again, torn_world, asked_at, step, run, core_in}
use Rattle.xl_world.specs.Starts.{start_of, start, IsRun}
use Rattle.xl_world.proofs.Keeping.{core_keeps}
use Rattle.xl_world.proofs.Listing.{at_node, run_has_lists}
use Rattle.xl_world.proofs.Settling.{at_its_number}

-- a place that is put is found where one of its number was, and nowhere else
put_present : (j : ℕ) (q : Place) (ps : List Place) → is_some (place_at j (put_place q ps)) ≡ is_some (place_at j ps)
put_present j q [] = refl
put_present j q (y ∷ ys) =
    cond_both (y.core.node.me == q.core.node.me) (q ∷ ys) (y ∷ put_place q ys) (λ zs. is_some (place_at j zs) ≡ is_some (place_at j (y ∷ ys)))
    (λ same. cond_both (q.core.node.me == j) (Some q) (place_at j ys) (λ o. is_some o ≡ is_some (place_at j (y ∷ ys)))
    (λ is. sym (ap is_some (cond-true (y.core.node.me == j) (Some y) _ (ap (λ (k : ℕ). k == j) (eqb-true _ _ same) ∙ is))))
    (λ is_not. sym (ap is_some (cond-false (y.core.node.me == j) (Some y) _ (ap (λ (k : ℕ). k == j) (eqb-true _ _ same) ∙ is_not)))))
    (λ _. cond_both (y.core.node.me == j) (Some y) (place_at j (put_place q ys)) (λ o. is_some o ≡ is_some (place_at j (y ∷ ys)))
    (λ is. sym (ap is_some (cond-true (y.core.node.me == j) (Some y) _ is)))
    (λ is_not. put_present j q ys ∙ sym (ap is_some (cond-false (y.core.node.me == j) (Some y) _ is_not))))

-- the nodes that stand in a world stand in the other
abbrev StandsSame : World → World → Type 0
StandsSame w v = (j : ℕ) → is_some (place_at j v.places) ≡ is_some (place_at j w.places)

acts_present : (w : World) (i : ℕ) (e : CoreEvent) (fate : Fate) (o : Option Place) → StandsSame w (acts w i e fate o)
acts_present w i e fate None j = refl
acts_present w i e fate (Some p) j = put_present j _ w.places

again_present : (w : World) (i now number : ℕ) (o : Option Place) → StandsSame w (again w i now number o)
again_present w i now number None j = refl
again_present w i now number (Some p) j = cond_both (may_hold (held_by p.disk) number) (reopened_world w i p now number) w (λ v. is_some (place_at j v.places) ≡ is_some (place_at j w.places)) (λ _. put_present j _ w.places) (λ _. refl)

torn_present : (w : World) (i now number : ℕ) (o : Option Place) (asked : Option ℕ) → StandsSame w (torn_world w i now number o asked)
torn_present w i now number None asked j = refl
torn_present w i now number (Some p) None j = refl
torn_present w i now number (Some p) (Some s) j = again_present w i now number (Some (record { core = p.core; disk = record p.disk { asked = Some s } })) j

step_present : (w : World) (s : Step) → StandsSame w (step w s)
step_present w (Act i e fate) j = acts_present w i e fate (place_at i w.places) j
step_present w (Again i now number) j = again_present w i now number (place_at i w.places) j
step_present w (Torn i e number) j = torn_present w i (moment_in e) number (place_at i w.places) (asked_at (place_at i w.places) e) j
step_present w Mark j = refl

run_present : (w : World) (ss : List Step) → StandsSame w (run w ss)
run_present w [] j = refl
run_present w (s ∷ ss) j = run_present (step w s) ss j ∙ step_present w s j

start_present : (shared : Shared) (i : ℕ) (plan : List PlanNode) → is_some (place_at i (map (start_of shared) plan)) ≡ is_some (list_at plan i)
start_present shared i [] = refl
start_present shared i (d ∷ ds) =
    cond_both (d.me == i) (Some (start_of shared d)) (place_at i (map (start_of shared) ds)) (λ o. is_some o ≡ is_some (list_at (d ∷ ds) i))
    (λ is. sym (ap (λ (o : Option PlanNode). is_some (option_map (λ x. x.list) o)) (cond-true (d.me == i) (Some d) _ is)))
    (λ is_not. start_present shared i ds ∙ sym (ap (λ (o : Option PlanNode). is_some (option_map (λ x. x.list) o)) (cond-false (d.me == i) (Some d) _ is_not)))

-- the number of a declared node is a member's
pub record IsMember (i : ℕ) : Type 0 where
  pub least : 1 ≤ i
  pub greatest : i ≤ 64

declared_member : (plan : List PlanNode) → AreDeclared plan → (i : ℕ) (a : TrustedList) → list_at plan i ≡ Some a → IsMember i
declared_member [] each i a at = cc
declared_member (d ∷ ds) each i a at =
    let first = All-head IsDeclared d ds each in
    cond_both (d.me == i) (Some d) (find (λ x. x.me == i) ds) (λ o. option_map (λ x. x.list) o ≡ Some a → IsMember i)
    (λ is _. subst IsMember (eqb-true d.me i is) (record { least = first.least; greatest = first.greatest }))
    (λ _ there. declared_member ds (All-tail IsDeclared d ds each) i a there)
    at

-- each reporting node stands in the world
abbrev pub HasReporters : World → Type 0
HasReporters w = All (λ r. is_some (place_at r.node w.places) ≡ true) w.reports

of_report : (places : List Place) (n : Node) (o : Option Report) → is_some (place_at n.me places) ≡ true → All (λ r. is_some (place_at r.node places) ≡ true) (option_to_list (option_map (reported_by n) o))
of_report places n None stands = All-nil (λ r. is_some (place_at r.node places) ≡ true)
of_report places n (Some q) stands = All-cons (λ r. is_some (place_at r.node places) ≡ true) (reported_by n q) [] stands (All-nil (λ r. is_some (place_at r.node places) ≡ true))

settled_reporters : (w : World) (i : ℕ) (forged : Bool) (set : Option InForce) (p : Place) (r : CoreReply) (k : Disk) → place_at i w.places ≡ Some p → r.core.node.me ≡ p.core.node.me → HasReporters w → HasReporters (settled_world w i forged set r k)
settled_reporters w i forged set p r k at same has =
    let q : Place = record { core = r.core; disk = k } in
    let stands : is_some (place_at r.core.node.me (put_place q w.places)) ≡ true =
    put_present r.core.node.me q w.places ∙ (ap (λ (m : ℕ). is_some (place_at m w.places)) (same ∙ at_its_number i w.places p at) ∙ ap is_some at) in
    All-append (λ x. is_some (place_at x.node (put_place q w.places)) ≡ true) w.reports (option_to_list (option_map (reported_by r.core.node) r.report))
    (All-weaker (λ x. is_some (place_at x.node w.places) ≡ true) _ (λ x there. put_present x.node q w.places ∙ there) w.reports has)
    (of_report (put_place q w.places) r.core.node r.report stands)

acts_reporters : (w : World) (i : ℕ) (e : CoreEvent) (fate : Fate) → HasReporters w → (o : Option Place) → place_at i w.places ≡ o → HasReporters (acts w i e fate o)
acts_reporters w i e fate has None at = has
acts_reporters w i e fate has (Some p) at =
    settled_reporters w i (is_forged w p.core.node e) (set_by p.core.node.me e (reply_at p e fate).answer) p (reply_at p e fate) (disk_after p e fate) at (core_keeps p.core e (answer_of p.disk fate)).0 has

again_reporters : (w : World) (i now number : ℕ) → HasReporters w → (p : Place) → place_at i w.places ≡ Some p → (k : Disk) → HasReporters (again w i now number (Some (record { core = p.core; disk = k })))
again_reporters w i now number has p at k =
    let q : Place = record { core = p.core; disk = k } in
    cond_both (may_hold (held_by k) number) (reopened_world w i q now number) w HasReporters
    (λ _. settled_reporters w i false None p (core_reply (core_again q now number) Done) (restored k number) at refl has) (λ _. has)

reopened_reporters : (w : World) (i now number : ℕ) → HasReporters w → (o : Option Place) → place_at i w.places ≡ o → HasReporters (again w i now number o)
reopened_reporters w i now number has None at = has
reopened_reporters w i now number has (Some p) at = again_reporters w i now number has p at p.disk

torn_reporters : (w : World) (i now number : ℕ) → HasReporters w → (o : Option Place) → place_at i w.places ≡ o → (asked : Option ℕ) → HasReporters (torn_world w i now number o asked)
torn_reporters w i now number has None at asked = has
torn_reporters w i now number has (Some p) at None = has
torn_reporters w i now number has (Some p) at (Some s) = again_reporters w i now number has p at (record p.disk { asked = Some s })

step_reporters : (w : World) (s : Step) → HasReporters w → HasReporters (step w s)
step_reporters w (Act i e fate) has = acts_reporters w i e fate has (place_at i w.places) refl
step_reporters w (Again i now number) has = reopened_reporters w i now number has (place_at i w.places) refl
step_reporters w (Torn i e number) has = torn_reporters w i (moment_in e) number has (place_at i w.places) refl (asked_at (place_at i w.places) e)
step_reporters w Mark has = has

run_has : (w : World) (ss : List Step) → HasReporters w → HasReporters (run w ss)
run_has w [] has = has
run_has w (s ∷ ss) has = run_has (step w s) ss (step_reporters w s has)

declared_as : (plan : List PlanNode) → AreDeclared plan → (i : ℕ) (o : Option TrustedList) → list_at plan i ≡ o → is_some o ≡ true → IsMember i
declared_as plan each i None at there = cc
declared_as plan each i (Some a) at there = declared_member plan each i a at

run_members : (shared : Shared) (liars : List ℕ) (plan : List PlanNode) (steps : List Step) → AreDeclared plan → All (λ r. IsMember r.node) (run (start shared liars plan) steps).reports
run_members shared liars plan steps each =
    let first : World = start shared liars plan in
    All-weaker (λ r. is_some (place_at r.node (run first steps).places) ≡ true) (λ r. IsMember r.node)
    (λ r there. declared_as plan each r.node (list_at plan r.node) refl (sym (run_present first steps r.node ∙ start_present shared r.node plan) ∙ there))
    (run first steps).reports (run_has first steps (All-nil (λ r. is_some (place_at r.node first.places) ≡ true)))

-- a node of a run is a member
pub placed_member : (w : World) → IsRun w → (i : ℕ) (p : Place) → place_at i w.places ≡ Some p → IsMember i
placed_member w is_run i p at =
    let first : World = start is_run.0 w.liars is_run.1 in
    let there : is_some (place_at i (run first is_run.2).places) ≡ true = ap (λ (u : World). is_some (place_at i u.places)) (sym is_run.5) ∙ ap is_some at in
    declared_as is_run.1 is_run.3 i (list_at is_run.1 i) refl (sym (run_present first is_run.2 i ∙ start_present is_run.0 i is_run.1) ∙ there)

-- a reporting node is a member, and the list of its report is among those of the world
pub record IsReporter (w : World) (r : Reported) : Type 0 where
  pub member : IsMember r.node
  pub listed : Contains w.lists (at_node r.node r.list)

run_reporters : (shared : Shared) (liars : List ℕ) (plan : List PlanNode) (steps : List Step) → AreDeclared plan → All (IsReporter (run (start shared liars plan) steps)) (run (start shared liars plan) steps).reports
run_reporters shared liars plan steps each k d k_in = record {
  member = run_members shared liars plan steps each k d k_in;
  listed = (run_has_lists shared liars plan steps).reports k d k_in;
}

pub world_reporters : (w : World) → IsRun w → All (IsReporter w) w.reports
world_reporters w is_run = subst (λ (u : World). All (IsReporter u) u.reports) (sym is_run.5) (run_reporters is_run.0 w.liars is_run.1 is_run.2 is_run.3)

-- one is there exactly where the other is
absent_like : {X Y : Type 0} (o : Option X) (p : Option Y) → is_some o ≡ is_some p → o ≡ None → p ≡ None
absent_like None None same is = refl
absent_like None (Some y) same is = cc
absent_like (Some x) p same is = cc

some_mapped : {X Y : Type 0} (f : X → Y) (o : Option X) → is_some (option_map f o) ≡ is_some o
some_mapped f None = refl
some_mapped f (Some x) = refl

-- a number has a core exactly where a node was declared with it
pub none_declared : (shared : Shared) (liars : List ℕ) (plan : List PlanNode) (steps : List Step) (i : ℕ) → (core_in (run (start shared liars plan) steps) i ≡ None) ↔ (list_at plan i ≡ None)
none_declared shared liars plan steps i =
    let w : World = run (start shared liars plan) steps in
    let same : is_some (core_in w i) ≡ is_some (list_at plan i) = some_mapped (λ (p : Place). p.core) (place_at i w.places) ∙ run_present (start shared liars plan) steps i ∙ start_present shared i plan in
    (absent_like (core_in w i) (list_at plan i) same, absent_like (list_at plan i) (core_in w i) (sym same))
