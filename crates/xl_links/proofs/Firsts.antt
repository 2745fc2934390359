-- The first link to a member, and the others.
use Rattle.std.proofs.Common.{◌≡◌, ◌≢◌, ℕ, zero, suc, ◌<◌, List, [], ◌∷◌, length, Some, None, refl, sym, ap, ◌∙◌, arith, get_or}
use Rattle.std.proofs.lemmas.Bool.Decides.{nat_tests}
use Rattle.xl_links.specs.declared.hub.Spare.{Spare}
use Rattle.xl_links.specs.Hubs.{first_for, without_first, IsPlaceFor}

module _ {L : Type 0} where
  -- another member's first link stays the first
  pub first_for-without_first : (spares : List (Spare L)) (member other : ℕ) → other ≢ member
      → first_for (without_first spares member) other ≡ first_for spares other
  first_for-without_first [] member other differs = refl
  first_for-without_first (s ∷ spares) member other differs =
      let later = first_for-without_first spares member other differs in grind (arith, nat_tests)

  -- none of the links before this place is to the member
  abbrev pub NoneBefore : List (Spare L) → ℕ → ℕ → Type 0
  NoneBefore spares member zero = Unit {0}
  NoneBefore [] member (suc place) = Unit {0}
  NoneBefore (s ∷ spares) member (suc place) = (s.member ≢ member) × NoneBefore spares member place

  pub none_more : (spares : List (Spare L)) (member place : ℕ) (s : Spare L) → NoneBefore spares member place
      → s ≡ get_or spares place s → s.member ≢ member → NoneBefore spares member (suc place)
  none_more [] member place s none is differs = tt
  none_more (x ∷ spares) member zero s none is differs = (λ same. differs (ap (λ y. y.member) is ∙ same), tt)
  none_more (x ∷ spares) member (suc place) s none is differs = (none.0, none_more spares member place s none.1 is differs)

  pub place_found : (spares : List (Spare L)) (member place : ℕ) (s : Spare L) → place < length spares
      → NoneBefore spares member place → s ≡ get_or spares place s → s.member ≡ member → IsPlaceFor spares member (Some place)
  place_found [] member place s within none is same = absurd (omega (arith, within))
  place_found (x ∷ spares) member zero s within none is same =
      let here : x.member ≡ member = sym (ap (λ y. y.member) is) ∙ same in
      (within, grind (arith, nat_tests), grind (arith, nat_tests))
  place_found (x ∷ spares) member (suc place) s within none is same =
      let differs = none.0 in
      let found = place_found spares member place s (omega (arith, within)) none.1 is same in
      let first = found.1 in
      let others = found.2 in
      (within, grind (arith, nat_tests), grind (arith, nat_tests))

  pub none_found : (spares : List (Spare L)) (member : ℕ) → NoneBefore spares member (length spares) → IsPlaceFor spares member None
  none_found [] member none = (refl, refl)
  none_found (x ∷ spares) member none =
      let differs = none.0 in
      let found = none_found spares member none.1 in
      let first = found.0 in
      let others = found.1 in
      (grind (arith, nat_tests), grind (arith, nat_tests))
