-- The network of a plan at its start, and what comes of it. Source: this project's schedule language.
use Rattle.std.specs.Prelude.{◌≡◌, ℕ, false, List, [], filter, map}
use Rattle.xl_core.specs.Core.{with_queues}
use Rattle.xl_core.specs.Node.{opened_node}
use Rattle.xl_world.specs.declared.place.Place.{Place}
use Rattle.xl_world.specs.declared.plan.InForce.{InForce}
use Rattle.xl_world.specs.declared.plan.PlanNode.{PlanNode}
use Rattle.xl_world.specs.Disk.{resting}
use Rattle.xl_world.specs.Plans.{AreDeclared, Shared, all_numbers, is_declared, planned_settings}
use Rattle.xl_world.specs.World.{World, Step, AreFit, run}

-- a core at its start, and its disk
abbrev pub start_of : Shared → PlanNode → Place
start_of shared d = record { core = with_queues (opened_node (planned_settings shared d) d.moment 0); disk = resting 0 }

-- the list with which a node is declared
abbrev pub list_of : PlanNode → InForce
list_of d = record { node = d.me; list = d.list }

-- the network at the start
abbrev pub start : Shared → List ℕ → List PlanNode → World
start shared liars plan = record {
  liars = liars;
  numbers = filter (is_declared liars plan) all_numbers;
  places = map (start_of shared) plan;
  sent = [];
  mark = 0;
  said = [];
  reports = [];
  lists = map list_of plan;
  forged = 0;
  spent = false;
}

-- the world comes from a declared one by steps that are fit to happen
abbrev pub IsRun : World → Type 0
IsRun w =
    (shared : Shared) × (plan : List PlanNode) × (steps : List Step)
    × AreDeclared plan × AreFit steps × (w ≡ run (start shared w.liars plan) steps)
