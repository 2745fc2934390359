-- A place that comes in place of the one of its number.
use Rattle.std.proofs.Common.{◌≡◌, ℕ, false, List, [], ◌∷◌, refl, ap, sym, ◌∙◌, Some, subst}
use Rattle.std.specs.Prelude.{◌==◌}
use Rattle.std.proofs.lemmas.Bool.{cond_both, cond-true, cond-false, eq-eqb}
use Rattle.xl_world.specs.declared.place.Place.{Place}
use Rattle.xl_world.specs.World.{place_at, put_place}
use Rattle.xl_world.proofs.Settling.{at_its_number}
use Rattle.xl_world.proofs.Seats.{some_same}

cons_same : {X : Type 0} (x y : X) (xs ys : List X) → x ≡ y → xs ≡ ys → x ∷ xs ≡ y ∷ ys
cons_same x y xs ys p q = cc

-- a place that stands there already
pub put_same : (i : ℕ) (ps : List Place) (p : Place) → place_at i ps ≡ Some p → put_place p ps ≡ ps
put_same i [] p h = refl
put_same i (x ∷ xs) p h =
    cond_both (x.core.node.me == i) (Some x) (place_at i xs) (λ o. o ≡ Some p → put_place p (x ∷ xs) ≡ x ∷ xs)
    (λ is here. let same : p ≡ x = some_same x p here in
    subst (λ (q : Place). put_place q (x ∷ xs) ≡ x ∷ xs) (sym same) (cond-true (x.core.node.me == x.core.node.me) _ _ (eq-eqb x.core.node.me x.core.node.me refl)))
    (λ is_not there.
    cond-false (x.core.node.me == p.core.node.me) _ _ (ap (λ (k : ℕ). x.core.node.me == k) (at_its_number i xs p there) ∙ is_not) ∙ cons_same x x _ _ refl (put_same i xs p there))
    h

-- a place that is put is found where one of its number was
pub put_at : (i : ℕ) (x : Place) (ps : List Place) (p : Place) → x.core.node.me ≡ i → place_at i ps ≡ Some p → place_at i (put_place x ps) ≡ Some x
put_at i x [] p its h = cc
put_at i x (y ∷ ys) p its h =
    cond_both (y.core.node.me == x.core.node.me) (x ∷ ys) (y ∷ put_place x ys) (λ ps. place_at i ps ≡ Some x)
    (λ _. cond-true (x.core.node.me == i) _ _ (eq-eqb x.core.node.me i its))
    (λ other.
    let not_i : (y.core.node.me == i) ≡ false = ap (λ (k : ℕ). y.core.node.me == k) (sym its) ∙ other in
    cond-false (y.core.node.me == i) _ _ not_i ∙ put_at i x ys p its (sym (cond-false (y.core.node.me == i) _ _ not_i) ∙ h))

-- the later of two stands
pub put_put : (x y : Place) (ps : List Place) → y.core.node.me ≡ x.core.node.me → put_place y (put_place x ps) ≡ put_place y ps
put_put x y [] same = refl
put_put x y (z ∷ zs) same =
    cond_both (z.core.node.me == x.core.node.me) (x ∷ zs) (z ∷ put_place x zs) (λ ps. put_place y ps ≡ put_place y (z ∷ zs))
    (λ is. cond-true (x.core.node.me == y.core.node.me) _ _ (eq-eqb x.core.node.me y.core.node.me (sym same))
    ∙ sym (cond-true (z.core.node.me == y.core.node.me) _ _ (ap (λ (k : ℕ). z.core.node.me == k) same ∙ is)))
    (λ is_not.
    let other : (z.core.node.me == y.core.node.me) ≡ false = ap (λ (k : ℕ). z.core.node.me == k) same ∙ is_not in
    cond-false (z.core.node.me == y.core.node.me) _ _ other ∙ cons_same z z _ _ refl (put_put x y zs same) ∙ sym (cond-false (z.core.node.me == y.core.node.me) _ _ other))
