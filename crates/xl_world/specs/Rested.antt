-- Worlds at rest, between two events. Source: what the code of this crate relies on.
use Rattle.std.specs.Prelude.{◌≡◌, ℕ, ◌<◌, ◌≤◌, List, [], ◌∷◌}
use Rattle.std.specs.Prelude.{Some}
use Rattle.xl_core.specs.Core.{Core}
use Rattle.xl_tags.specs.Rings.{schedule_ring}
use Rattle.xl_world.specs.declared.place.Place.{Place}
use Rattle.xl_world.specs.World.{World, place_at}

-- rising members' numbers above this one
abbrev pub Between : ℕ → List ℕ → Type 0
Between low [] = Unit {0}
Between low (m ∷ ms) = (low < m) × (m ≤ 64) × Between m ms

-- no report is untaken, and the keys are those of a schedule's member
pub record IsRested (core : Core) : Type 0 where
  pub untaken : core.untaken.items ≡ []
  pub keys : core.node.keys ≡ schedule_ring core.node.me

-- so is each core of a world, and its numbers are members'
pub record IsAtRest (w : World) : Type 0 where
  pub numbers : Between 0 w.numbers
  pub cores : (i : ℕ) (p : Place) → place_at i w.places ≡ Some p → IsRested p.core
