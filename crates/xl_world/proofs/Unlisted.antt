-- What sets no list leaves the lists that were in force.
use Rattle.std.proofs.Common.{◌≡◌, ℕ, List, [], ◌∷◌, ◌++◌, refl, ap, ◌∙◌, append-nil, Option, Some, None}
use Rattle.std.specs.Prelude.{All, option_to_list}
use Rattle.std.proofs.lemmas.Bool.{cond_both}
use Rattle.std.proofs.lemmas.List.Elements.{All-head, All-tail}
use Rattle.xl_io.specs.Keepers.{may_hold}
use Rattle.xl_core.specs.Answers.{Answer}
use Rattle.xl_core.specs.declared.event.CoreEvent.{CoreEvent}
use Rattle.xl_sched.specs.declared.event.What.{What}
use Rattle.xl_world.specs.declared.place.Fate.{Fate}
use Rattle.xl_world.specs.declared.place.Place.{Place}
use Rattle.xl_world.specs.declared.plan.InForce.{InForce}
use Rattle.xl_world.specs.Disk.{held_by}
use Rattle.xl_world.specs.Schedule.{steps_at}
use Rattle.xl_world.specs.World.{World, Step, Act, Again, Torn, Mark, place_at, set_by, acts, reply_at, reopened_world, again, torn_world, moment_in, asked_at, step, run}
use Rattle.xl_world.proofs.Fitting.{Does, OfAll, OfList, steps_do}

abbrev pub SetsNone : CoreEvent → Type 0
SetsNone e = (i : ℕ) (a : Answer) → set_by i e a ≡ None

act_stays : (w : World) (i : ℕ) (e : CoreEvent) (fate : Fate) → SetsNone e → (o : Option Place) → (acts w i e fate o).lists ≡ w.lists
act_stays w i e fate none None = refl
act_stays w i e fate none (Some p) =
    ap (λ (set : Option InForce). w.lists ++ option_to_list set) (none p.core.node.me (reply_at p e fate).answer) ∙ append-nil w.lists

again_stays : (w : World) (i now number : ℕ) (o : Option Place) → (again w i now number o).lists ≡ w.lists
again_stays w i now number None = refl
again_stays w i now number (Some p) =
    cond_both (may_hold (held_by p.disk) number) (reopened_world w i p now number) w (λ (u : World). u.lists ≡ w.lists) (λ _. append-nil w.lists) (λ _. refl)

torn_stays : (w : World) (i now number : ℕ) (o : Option Place) (asked : Option ℕ) → (torn_world w i now number o asked).lists ≡ w.lists
torn_stays w i now number None asked = refl
torn_stays w i now number (Some p) None = refl
torn_stays w i now number (Some p) (Some s) = again_stays w i now number (Some (record { core = p.core; disk = record p.disk { asked = Some s } }))

step_stays : (w : World) (s : Step) → Does SetsNone s → (step w s).lists ≡ w.lists
step_stays w (Act i e fate) none = act_stays w i e fate none (place_at i w.places)
step_stays w (Again i now number) none = again_stays w i now number (place_at i w.places)
step_stays w (Torn i e number) none = torn_stays w i (moment_in e) number (place_at i w.places) (asked_at (place_at i w.places) e)
step_stays w Mark none = refl

run_stays : (w : World) (ss : List Step) → All (Does SetsNone) ss → (run w ss).lists ≡ w.lists
run_stays w [] none = refl
run_stays w (s ∷ ss) none = run_stays (step w s) ss (All-tail (Does SetsNone) s ss none) ∙ step_stays w s (All-head (Does SetsNone) s ss none)

all_set_none : OfAll SetsNone
all_set_none = record {
  issues = λ now seq id full i a. refl;
  frames = λ now bytes i a. refl;
  timers = λ now i a. refl;
  submits = λ now tx i a. refl;
  greets = λ member i a. refl;
  drains = λ member room i a. refl;
  reports = λ room i a. refl;
}

-- an event of a schedule that sets no list leaves those that were in force
pub lists_stay : (w : World) (at : ℕ) (happening : What) → OfList SetsNone at happening → (run w (steps_at w at happening)).lists ≡ w.lists
lists_stay w at happening none = run_stays w (steps_at w at happening) (steps_do SetsNone all_set_none w at happening none)
