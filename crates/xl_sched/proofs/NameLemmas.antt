-- The first element that passes, by its place.
use Rattle.std.proofs.Common.{◌≡◌, ◌+◌, ◌≤◌, ℕ, zero, suc, Bool, true, false, cond, nat_lt, eqb, List, [], ◌∷◌, ◌++◌, length, get_or, position, find, Some, None, option_map, not, inl, inr, refl, ap, sym, ◌∙◌, arith}
use Rattle.std.specs.List.{position_or_len, slice_get}
use Rattle.std.specs.Option.{option_and_then}
use Rattle.std.proofs.lemmas.Bool.Decides.{nat_tests}
use Rattle.std.proofs.lemmas.List.{length_push}
use Rattle.std.proofs.lemmas.List.Folds.{find_at, position_or_len_push}
use Rattle.std.proofs.lemmas.List.Sums.{prefix_len-le-length}
use Rattle.std.proofs.lemmas.Option.{slice_get-get_or, slice_get_cases}
use Rattle.std.proofs.lemmas.List.Quantifiers.{position-Some}
use Rattle.std.specs.Str.{bytes_eq}
use Rattle.xl_sched.specs.declared.named.Named.{Named}
use Rattle.xl_sched.specs.declared.places.Places.{Places}
use Rattle.xl_sched.specs.Places.{with_place, place_of_name, place_of_id, AreFirst, HasPlaceMore, HasSamePlaces}

slice_get-past : {X : Type 0} (xs : List X) (i : ℕ) → length xs ≤ i → slice_get xs i ≡ None
slice_get-past [] i h = refl
slice_get-past (x ∷ xs) zero h = absurd (omega (arith, h))
slice_get-past (x ∷ xs) (suc i) h = slice_get-past xs i (omega (arith, h))

-- the first that passes stands at its place
pub find-position : {X : Type 0} (p : X → Bool) (xs : List X) → find p xs ≡ option_and_then (slice_get xs) (position p xs)
find-position p xs =
    find_at p xs
    ∙ elim (nat_lt (position_or_len p xs) (length xs)) as (λ b. nat_lt (position_or_len p xs) (length xs) ≡ b → slice_get xs (position_or_len p xs) ≡ option_and_then (slice_get xs) (cond b (Some (position_or_len p xs)) None)) [
      | true ↦ λ _. refl
      | false ↦ λ e. slice_get-past xs (position_or_len p xs) (grind (arith, nat_tests))
    ] refl

-- what stands there is found
pub found_here : {X : Type 0} (p : X → Bool) (xs : List X) (place : ℕ) (x : X) → position p xs ≡ Some place → x ≡ get_or xs place x → find p xs ≡ Some x
found_here p xs place x e here =
    let within = position-Some p xs place x e in
    find-position p xs ∙ ap (option_and_then (slice_get xs)) e ∙ slice_get-get_or xs place x within.0 ∙ ap (λ y. Some y) (sym here)

pub found_nowhere : {X : Type 0} (p : X → Bool) (xs : List X) → position p xs ≡ None → find p xs ≡ None
found_nowhere p xs e = find-position p xs ∙ ap (option_and_then (slice_get xs)) e

-- what it gives is found
pub found : {X A : Type 0} (f : X → A) (p : X → Bool) (xs : List X) (place : ℕ) (x : X) → position p xs ≡ Some place → x ≡ get_or xs place x → option_map f (find p xs) ≡ Some (f x)
found f p xs place x e here = ap (option_map f) (found_here p xs place x e here)

pub not_found : {X A : Type 0} (f : X → A) (p : X → Bool) (xs : List X) → position p xs ≡ None → option_map f (find p xs) ≡ None
not_found f p xs e = ap (option_map f) (found_nowhere p xs e)

pushed_place : (n len : ℕ) (passes : Bool) → n ≤ len →
    cond (nat_lt (cond (eqb n len) (len + cond passes 0 1) n) (len + 1)) (Some (cond (eqb n len) (len + cond passes 0 1) n)) None ≡ with_place (cond (nat_lt n len) (Some n) None) passes len
pushed_place n len true h = grind (arith, nat_tests)
pushed_place n len false h = grind (arith, nat_tests)

-- where the first stands after one element more
pub position-push : {X : Type 0} (p : X → Bool) (xs : List X) (y : X) → position p (xs ++ y ∷ []) ≡ with_place (position p xs) (p y) (length xs)
position-push p xs y =
    ap (λ n. cond (nat_lt n (length (xs ++ y ∷ []))) (Some n) None) (position_or_len_push p xs y)
    ∙ ap (λ len. cond (nat_lt (cond (eqb (position_or_len p xs) (length xs)) (length xs + cond (p y) 0 1) (position_or_len p xs)) len) (Some (cond (eqb (position_or_len p xs) (length xs)) (length xs + cond (p y) 0 1) (position_or_len p xs))) None) (length_push xs y)
    ∙ pushed_place (position_or_len p xs) (length xs) (p y) (prefix_len-le-length (λ x. not (p x)) xs)

Some≢None : {A : Type 0} (x : A) → Some x ≡ None → ⊥
Some≢None x e = cc

-- no element passes
pub position-none : {X A : Type 0} (f : X → A) (p : X → Bool) (xs : List X) → option_map f (find p xs) ≡ None → position p xs ≡ None
position-none f p xs h =
    let n = position_or_len p xs in
    elim (slice_get_cases xs n).1 [
      | inl (x, within, e, here) ↦ absurd (Some≢None (f x) (sym (ap (option_map f) (find_at p xs ∙ e)) ∙ h))
      | inr (past, e) ↦ grind (arith, nat_tests)
    ]

-- one name more, at the end
pub AreFirst-more : (old new : Places) (names : List Named) (named : Named) (name id : List ℕ) (place : ℕ) → HasPlaceMore old new name id place → place ≡ length names → named.name ≡ name → named.id ≡ id → AreFirst old names → AreFirst new (names ++ named ∷ [])
AreFirst-more old new names named name id place more at same_name same first = record {
  by_name = λ t. more.by_name t ∙ ap (λ kept. with_place kept (bytes_eq t name) place) (first.by_name t) ∙ ap (λ n. with_place (position (λ n. bytes_eq t n.name) names) (bytes_eq t name) n) at ∙ ap (λ n. with_place (position (λ n. bytes_eq t n.name) names) (bytes_eq t n) (length names)) (sym same_name) ∙ sym (position-push (λ n. bytes_eq t n.name) names named);
  by_id = λ t. more.by_id t ∙ ap (λ kept. with_place kept (bytes_eq t id) place) (first.by_id t) ∙ ap (λ n. with_place (position (λ n. bytes_eq t n.id) names) (bytes_eq t id) n) at ∙ ap (λ n. with_place (position (λ n. bytes_eq t n.id) names) (bytes_eq t n) (length names)) (sym same) ∙ sym (position-push (λ n. bytes_eq t n.id) names named);
}

pub AreFirst-kept : (old new : Places) (names : List Named) → HasSamePlaces old new → AreFirst old names → AreFirst new names
AreFirst-kept old new names same first = record {
  by_name = λ t. same.by_name t ∙ first.by_name t;
  by_id = λ t. same.by_id t ∙ first.by_id t;
}

pub AreFirst-none : (places : Places) → ((name : List ℕ) → place_of_name places name ≡ None) → ((id : List ℕ) → place_of_id places id ≡ None) → AreFirst places []
AreFirst-none places names ids = record { by_name = names; by_id = ids }
