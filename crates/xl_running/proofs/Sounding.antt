-- A schedule runs soundly: its nodes may be declared, and its world is a run.
use Rattle.std.proofs.Common.{◌≡◌, ℕ, List, [], ◌∷◌, refl, sym, subst, Option, Some, None}
use Rattle.std.specs.Prelude.{unwrap_or}
use Rattle.std.proofs.lemmas.List.Elements.{All-append, All-cons, All-nil}
use Rattle.xl_sched.specs.declared.event.Event.{Event}
use Rattle.xl_sched.specs.declared.line.Line.{Line}
use Rattle.xl_sched.specs.declared.line.Line.TheVariants as line
use Rattle.xl_sched.specs.declared.named.Named.{Named}
use Rattle.xl_sched.specs.Reading.{Reading}
use Rattle.xl_world.specs.declared.plan.PlanNode.{PlanNode}
use Rattle.xl_world.specs.Plans.{AreDeclared, IsDeclared, Shared}
use Rattle.xl_world.specs.Schedule.{IsPlausible, steps_of}
use Rattle.xl_world.specs.Starts.{IsRun, start}
use Rattle.xl_world.specs.World.{IsFit, World}
use Rattle.xl_world.proofs.Fitting.{steps_fit}
use Rattle.xl_world.proofs.Runs.{run_on}
use Rattle.xl_running.specs.Running.{Running, at_first, declares, happens, knows, world_of}
use Rattle.xl_running.proofs.Declaring.{Declares}

-- the world so far is a run, and the nodes may be declared
pub record IsSound (r : Running) : Type 0 where
  pub declared : AreDeclared r.plan
  pub is_run : IsRun (world_of r)

-- a plan's own world is a run of no steps
world_run : (shared : Shared) (plan : List PlanNode) (liars : List ℕ) → AreDeclared plan → IsRun (start shared liars plan)
world_run shared plan liars declared = (shared, plan, [], declared, All-nil IsFit, refl)

pub first_sound : IsSound at_first
first_sound = record { declared = All-nil IsDeclared; is_run = world_run at_first.shared [] [] (All-nil IsDeclared) }

pub knows_sound : (r : Running) (reading : Reading) → IsSound r → IsSound (knows r reading)
knows_sound r reading sound = record { declared = sound.declared; is_run = sound.is_run }

pub happens_sound : (r : Running) (e : Event) → IsPlausible e.what → IsSound r → IsSound (happens r e)
happens_sound r e plausible sound = record {
  declared = sound.declared;
  is_run = run_on (world_of r) _ (steps_of (world_of r) e) refl (steps_fit (world_of r) e.at e.what plausible) sound.is_run;
}

-- another plan changes nothing of a world that is there
planned : (r : Running) (shared : Shared) (plan : List PlanNode) (liars : List ℕ) → AreDeclared plan → IsSound r → (o : Option World) → r.world ≡ o → IsRun (unwrap_or r.world (start shared liars plan))
planned r shared plan liars declared sound None at =
    subst (λ (x : Option World). IsRun (unwrap_or x (start shared liars plan))) (sym at) (world_run shared plan liars declared)
planned r shared plan liars declared sound (Some w) at =
    subst (λ (x : Option World). IsRun (unwrap_or x (start shared liars plan))) (sym at) (subst (λ (x : Option World). IsRun (unwrap_or x (start r.shared r.liars r.plan))) at sound.is_run)

same_reports : (r : Running) (shared : Shared) (plan : List PlanNode) (liars : List ℕ) (o : Option World) → r.world ≡ o → (unwrap_or r.world (start shared liars plan)).reports ≡ (world_of r).reports
same_reports r shared plan liars None at = rw at refl
same_reports r shared plan liars (Some w) at = rw at refl

pub declares_sound : (r : Running) (names : List Named) (l : Line) → Declares names l → IsSound r → IsSound (declares r l)
declares_sound r names (line.Limit limit) declared sound = record {
  declared = sound.declared;
  is_run = planned r (record r.shared { limit = limit }) r.plan r.liars sound.declared sound r.world refl;
}
declares_sound r names (line.Speak version) declared sound = record {
  declared = sound.declared;
  is_run = planned r (record r.shared { speak = version }) r.plan r.liars sound.declared sound r.world refl;
}
declares_sound r names (line.Node me list validating) declared sound =
    let node : PlanNode = record { me = me; list = list; validating = validating; moment = r.reading.now } in
    let are : AreDeclared (declares r (line.Node me list validating)).plan =
    All-append IsDeclared r.plan (node ∷ []) sound.declared (All-cons IsDeclared node [] (record { least = declared.least; greatest = declared.greatest; list = declared.list }) (All-nil IsDeclared)) in
    record { declared = are; is_run = planned r r.shared (declares r (line.Node me list validating)).plan r.liars are sound r.world refl }
declares_sound r names (line.Liar me) declared sound = record {
  declared = sound.declared;
  is_run = planned r r.shared r.plan (declares r (line.Liar me)).liars sound.declared sound r.world refl;
}
declares_sound r names other declared sound = sound

-- reports stay where a line declares
pub declares_reports : (r : Running) (l : Line) → (world_of (declares r l)).reports ≡ (world_of r).reports
declares_reports r (line.Limit limit) = same_reports r (record r.shared { limit = limit }) r.plan r.liars r.world refl
declares_reports r (line.Speak version) = same_reports r (record r.shared { speak = version }) r.plan r.liars r.world refl
declares_reports r (line.Node me list validating) = same_reports r r.shared (declares r (line.Node me list validating)).plan r.liars r.world refl
declares_reports r (line.Liar me) = same_reports r r.shared r.plan (declares r (line.Liar me)).liars r.world refl
declares_reports r other = refl
