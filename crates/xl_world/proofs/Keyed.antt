-- Each core of a world has the keys that a schedule gives its number.
use Rattle.std.proofs.Common.{◌≡◌, ℕ, Bool, true, false, refl, ap, sym, ◌∙◌, Option, Some, None}
use Rattle.std.specs.Prelude.{option_map}
use Rattle.xl_core.specs.Core.{Core}
use Rattle.xl_tags.specs.Rings.{schedule_ring}
use Rattle.xl_world.specs.declared.place.Place.{Place}
use Rattle.xl_world.specs.World.{World, core_in, place_at}
use Rattle.xl_world.specs.Worlds.{IsKept}
use Rattle.xl_world.proofs.Settling.{at_its_number}

none_some : {X : Type 0} (x : X) → None ≡ Some x → ⊥
none_some x e = cc

same_core : (x y : Core) → Some x ≡ Some y → x ≡ y
same_core x y e = cc

pub keyed : (spent : Bool) (w : World) → IsKept spent w → (i : ℕ) (core : Core) → core_in w i ≡ Some core → core.node.keys ≡ schedule_ring i
keyed true w left i core is = absurd (none_some core (sym (ap (λ (v : World). core_in v i) left.2) ∙ is))
keyed false w kept i core is = by_place (place_at i w.places) refl is
  where
    by_place : (o : Option Place) → place_at i w.places ≡ o → option_map (λ (p : Place). p.core) o ≡ Some core → core.node.keys ≡ schedule_ring i
    by_place None at e = absurd (none_some core e)
    by_place (Some p) at e =
        sym (ap (λ (c : Core). c.node.keys) (same_core p.core core e))
        ∙ (kept.1.cores i p at).keys
        ∙ ap schedule_ring (at_its_number i w.places p at)
