-- Worlds that keep what the type keeps: at the start, after an event, and once they are spent.
use Rattle.std.proofs.Common.{◌≡◌, ℕ, List, [], refl, sym, subst}
use Rattle.std.proofs.lemmas.List.Elements.{All-nil}
use Rattle.xl_sched.specs.declared.event.What.{What}
use Rattle.xl_world.specs.declared.plan.PlanNode.{PlanNode}
use Rattle.xl_world.specs.Plans.{AreDeclared, Shared}
use Rattle.xl_world.specs.Rested.{IsAtRest}
use Rattle.xl_world.specs.Schedule.{IsPlausible, steps_at}
use Rattle.xl_world.specs.Starts.{IsRun, start}
use Rattle.xl_world.specs.World.{World, IsFit, run}
use Rattle.xl_world.proofs.Events.{event_leaves}
use Rattle.xl_world.proofs.Fitting.{steps_fit}
use Rattle.xl_world.proofs.Resting.{start_rests}
use Rattle.xl_world.proofs.Runs.{run_on}

abbrev pub Keeps : World → Type 0
Keeps w = IsRun w × IsAtRest w

pub starts_well : (w : World) (shared : Shared) (liars : List ℕ) (plan : List PlanNode) → w ≡ start shared liars plan → AreDeclared plan → Keeps w
starts_well w shared liars plan is declared = subst Keeps (sym is) ((shared, plan, [], declared, All-nil IsFit, refl), start_rests shared liars plan)

pub goes_well : (w v : World) (at : ℕ) (happening : What) → v ≡ run w (steps_at w at happening) → IsPlausible happening → Keeps w → Keeps v
goes_well w v at happening is plausible keeps = (run_on w v (steps_at w at happening) is (steps_fit w at happening plausible) keeps.0, subst IsAtRest (sym is) (event_leaves w at happening keeps.1))
