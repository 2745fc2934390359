-- Where names and ids were declared first. Source: this project's schedule language, in which an id is printed by its
-- first name.
use Rattle.std.specs.Prelude.{◌≡◌, ℕ, Bool, List, Option, Some, None, cond, position}
use Rattle.std.specs.Ordering.{nat_cmp}
use Rattle.std.specs.Cmp.Lexicographic.{slice_cmp}
use Rattle.std.specs.Option.{option_or}
use Rattle.std.specs.BTreeMap.{get_by}
use Rattle.std.specs.Str.{bytes_eq}
use Rattle.xl_sched.specs.declared.named.Named.{Named}
use Rattle.xl_sched.specs.declared.places.Places.{Places}

-- the place that is kept for a name
abbrev pub place_of_name : Places → List ℕ → Option ℕ
place_of_name places name = get_by (λ key. slice_cmp nat_cmp name key.items) places.by_name

-- the place that is kept for an id's bytes
abbrev pub place_of_id : Places → List ℕ → Option ℕ
place_of_id places id = get_by (λ key. slice_cmp nat_cmp id key.0) places.by_id

-- the places of the first declarations
pub record AreFirst (places : Places) (names : List Named) : Type 0 where
  pub by_name : (name : List ℕ) → place_of_name places name ≡ position (λ n. bytes_eq name n.name) names
  pub by_id : (id : List ℕ) → place_of_id places id ≡ position (λ n. bytes_eq id n.id) names

-- one place more for a key, unless it has one
abbrev pub with_place : Option ℕ → Bool → ℕ → Option ℕ
with_place kept is_key place = option_or kept (cond is_key (Some place) None)

pub record HasPlaceMore (old new : Places) (name id : List ℕ) (place : ℕ) : Type 0 where
  pub by_name : (other : List ℕ) →
      place_of_name new other ≡ with_place (place_of_name old other) (bytes_eq other name) place
  pub by_id : (other : List ℕ) → place_of_id new other ≡ with_place (place_of_id old other) (bytes_eq other id) place

pub record HasSamePlaces (old new : Places) : Type 0 where
  pub by_name : (other : List ℕ) → place_of_name new other ≡ place_of_name old other
  pub by_id : (other : List ℕ) → place_of_id new other ≡ place_of_id old other
