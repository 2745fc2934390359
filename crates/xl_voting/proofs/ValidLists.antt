-- The list in force at a node of a run is a list.
use Rattle.std.proofs.Common.{◌≡◌, ℕ, List, [], ◌∷◌, sym, subst, Option, Some, None}
use Rattle.std.specs.Prelude.{All, option_to_list}
use Rattle.std.proofs.lemmas.Bool.{cond_both}
use Rattle.std.proofs.lemmas.List.Elements.{All-append, All-cons, All-contains, All-head, All-map, All-nil, All-tail, All-weaker}
use Rattle.xl_io.specs.Keepers.{may_hold}
use Rattle.xl_lists.specs.Lists.{TrustedList, IsValid}
use Rattle.xl_core.specs.Answers.{Answer, Refused}
use Rattle.xl_core.specs.declared.event.CoreEvent.{CoreEvent}
use Rattle.xl_core.specs.declared.event.CoreEvent.TheVariants.{Relist}
use Rattle.xl_world.specs.declared.place.Fate.{Fate}
use Rattle.xl_world.specs.declared.place.Place.{Place}
use Rattle.xl_world.specs.declared.plan.InForce.{InForce}
use Rattle.xl_world.specs.declared.plan.PlanNode.{PlanNode}
use Rattle.xl_world.specs.Disk.{held_by}
use Rattle.xl_world.specs.Plans.{AreDeclared, IsDeclared, Shared}
use Rattle.xl_world.specs.Starts.{IsRun, list_of, start}
use Rattle.xl_world.specs.World.{World, Step, Act, Again, Torn, Mark, AreFit, IsFit, IsFitEvent, acts, again, asked_at, list_set, moment_in, place_at, reopened_world, reply_at, run, set_by, step, torn_world}
use Rattle.xl_world.proofs.Listing.{HasLists, at_node, run_has_lists}

abbrev Valid : InForce → Type 0
Valid f = IsValid f.list

abbrev AreValid : World → Type 0
AreValid w = All Valid w.lists

none_set : All Valid (option_to_list None)
none_set = All-nil Valid

one_set : (i : ℕ) (list : TrustedList) → IsValid list → All Valid (option_to_list (Some (at_node i list)))
one_set i list valid = All-cons Valid (at_node i list) [] valid (All-nil Valid)

list_set-valid : (i : ℕ) (list : TrustedList) → IsValid list → (a : Answer) → All Valid (option_to_list (list_set i list a))
list_set-valid i list valid (Refused why) = none_set
list_set-valid i list valid other = one_set i list valid

set_by-valid : (i : ℕ) (e : CoreEvent) (a : Answer) → IsFitEvent e → All Valid (option_to_list (set_by i e a))
set_by-valid i (Relist now list) a fit = list_set-valid i list fit a
set_by-valid i other a fit = none_set

acts_valid : (w : World) (i : ℕ) (e : CoreEvent) (fate : Fate) (o : Option Place) → IsFitEvent e → AreValid w → AreValid (acts w i e fate o)
acts_valid w i e fate None fit valid = valid
acts_valid w i e fate (Some p) fit valid =
    All-append Valid w.lists (option_to_list (set_by p.core.node.me e (reply_at p e fate).answer)) valid (set_by-valid p.core.node.me e (reply_at p e fate).answer fit)

again_valid : (w : World) (i now number : ℕ) (o : Option Place) → AreValid w → AreValid (again w i now number o)
again_valid w i now number None valid = valid
again_valid w i now number (Some p) valid =
    cond_both (may_hold (held_by p.disk) number) (reopened_world w i p now number) w AreValid (λ _. All-append Valid w.lists [] valid (All-nil Valid)) (λ _. valid)

torn_valid : (w : World) (i now number : ℕ) (o : Option Place) (asked : Option ℕ) → AreValid w → AreValid (torn_world w i now number o asked)
torn_valid w i now number None asked valid = valid
torn_valid w i now number (Some p) None valid = valid
torn_valid w i now number (Some p) (Some s) valid = again_valid w i now number (Some (record { core = p.core; disk = record p.disk { asked = Some s } })) valid

step_valid : (w : World) (s : Step) → IsFit s → AreValid w → AreValid (step w s)
step_valid w (Act i e fate) fit valid = acts_valid w i e fate (place_at i w.places) fit valid
step_valid w (Again i now number) fit valid = again_valid w i now number (place_at i w.places) valid
step_valid w (Torn i e number) fit valid = torn_valid w i (moment_in e) number (place_at i w.places) (asked_at (place_at i w.places) e) valid
step_valid w Mark fit valid = valid

run_valid : (w : World) (ss : List Step) → AreFit ss → AreValid w → AreValid (run w ss)
run_valid w [] fit valid = valid
run_valid w (s ∷ ss) fit valid = run_valid (step w s) ss (All-tail IsFit s ss fit) (step_valid w s (All-head IsFit s ss fit) valid)

start_valid : (shared : Shared) (liars : List ℕ) (plan : List PlanNode) → AreDeclared plan → AreValid (start shared liars plan)
start_valid shared liars plan declared = All-map Valid list_of plan (All-weaker IsDeclared (λ d. Valid (list_of d)) (λ d is. is.list) plan declared)

world_valid : (w : World) → IsRun w → AreValid w
world_valid w is = subst AreValid (sym is.5) (run_valid (start is.0 w.liars is.1) is.2 is.4 (start_valid is.0 w.liars is.1 is.3))

pub placed_valid : (w : World) → IsRun w → (i : ℕ) (p : Place) → place_at i w.places ≡ Some p → IsValid p.core.node.list
placed_valid w is i p at =
    let has : HasLists w = subst HasLists (sym is.5) (run_has_lists is.0 w.liars is.1 is.2) in
    All-contains Valid w.lists (at_node i p.core.node.list) (world_valid w is) (has.nodes i p at)
