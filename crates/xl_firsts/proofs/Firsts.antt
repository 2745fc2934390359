-- The first of some numbers by an order, one number after the other.
use Rattle.std.proofs.Common.{◌≡◌, ℕ, ◌+◌, ◌<◌, Bool, true, false, cond, List, [], ◌∷◌, ◌++◌, Option, Some, None, take, get_or, length, refl, sym, ap, subst, ◌∙◌, inl, inr}
use Rattle.std.specs.Prelude.{◌==◌, ◌||◌, ◌&&◌, find, filter}
use Rattle.std.specs.List.{list_all}
use Rattle.std.proofs.lemmas.Bool.{cases_Bool, eqb-true, eq-eqb, cond-true, cond-false, and_parts, cond_both, or_left, or_right}
use Rattle.std.proofs.lemmas.List.{take_more, append-nil}
use Rattle.std.proofs.lemmas.List.Elements.{filter_more}
use Rattle.std.proofs.lemmas.List.Folds.{list_any-append, list_all-append}
use Rattle.xl_lists.specs.Lists.{is_on}
use Rattle.xl_firsts.specs.Firsts.{first_by, or_one, leads, IsOrder, IsFirst}

pub either : (a b : Bool) → (a || b) ≡ true → a ≡ false → b ≡ true
either true b e f = absurd cc
either false b e f = e

pub at_member : (p : ℕ → Bool) (xs : List ℕ) (m : ℕ) → list_all p xs ≡ true → is_on xs m ≡ true → p m ≡ true
at_member p [] m all on = absurd cc
at_member p (x ∷ xs) m all on =
    let parts = and_parts (p x) (list_all p xs) all in
    elim (cases_Bool (m == x)) [
      | inl same ↦ ap p (eqb-true m x same) ∙ parts.0
      | inr other ↦ at_member p xs m parts.1 (either (m == x) (is_on xs m) on other)
    ]

all_weaker : (p q : ℕ → Bool) → ((m : ℕ) → p m ≡ true → q m ≡ true) → (xs : List ℕ) → list_all p xs ≡ true → list_all q xs ≡ true
all_weaker p q h [] all = refl
all_weaker p q h (x ∷ xs) all =
    let parts = and_parts (p x) (list_all p xs) all in
    both (q x) (list_all q xs) (h x parts.0) (all_weaker p q h xs parts.1)
  where
    both : (a b : Bool) → a ≡ true → b ≡ true → (a && b) ≡ true
    both true b e f = f
    both false b e f = absurd cc

both_true : (a b : Bool) → a ≡ true → b ≡ true → (a && b) ≡ true
both_true true b e f = f
both_true false b e f = absurd cc

module _ (before : ℕ → ℕ → Bool) (order : IsOrder before) where
  -- of two that come before each other, or are one, both are one
  one_first : (a b : ℕ) → (a == b || before a b) ≡ true → (b == a || before b a) ≡ true → a ≡ b
  one_first a b ab ba =
      elim (cases_Bool (a == b)) [
        | inl same ↦ eqb-true a b same
        | inr other ↦ elim (cases_Bool (b == a)) [
          | inl same ↦ sym (eqb-true b a same)
          | inr another ↦ order.one_way a b (either (a == b) (before a b) ab other) (either (b == a) (before b a) ba another)
        ]
      ]

  -- the search for it finds it
  finds : (whole xs : List ℕ) (b : ℕ) → ((m : ℕ) → is_on xs m ≡ true → is_on whole m ≡ true) → is_on whole b ≡ true → leads before b whole ≡ true → is_on xs b ≡ true →
      find (λ m. leads before m whole) xs ≡ Some b
  finds whole [] b within there first on = absurd cc
  finds whole (x ∷ xs) b within there first on =
      elim (cases_Bool (leads before x whole)) [
        | inl also ↦ cond-true (leads before x whole) (Some x) (find (λ m. leads before m whole) xs) also
            ∙ ap Some (one_first x b (at_member (λ k. x == k || before x k) whole b also there)
            (at_member (λ k. b == k || before b k) whole x first (within x (or_left (x == x) (is_on xs x) (eq-eqb x x refl)))))
        | inr not_it ↦ cond-false (leads before x whole) (Some x) (find (λ m. leads before m whole) xs) not_it
            ∙ finds whole xs b (λ m h. within m (or_right (m == x) (is_on xs m) h)) there first
            (elim (cases_Bool (b == x)) [
              | inl same ↦ absurd (let t : leads before x whole ≡ true = ap (λ (k : ℕ). leads before k whole) (sym (eqb-true b x same)) ∙ first in cc)
              | inr other ↦ either (b == x) (is_on xs b) on other
            ])
      ]

  -- what is kept of the members is the first of them
  pub first_is : (members : List ℕ) (kept : Option ℕ) → IsFirst before members kept → first_by before members ≡ kept
  first_is members None none = subst (λ (ms : List ℕ). first_by before ms ≡ None) (sym none) refl
  first_is members (Some b) first = finds members members b (λ m on. on) first.0 first.1 first.0

  or_stays : (seen : List ℕ) (b m : ℕ) → before m b ≡ false → IsFirst before seen (Some b) → IsFirst before (seen ++ m ∷ []) (Some b)
  or_stays seen b m later first = (
    list_any-append (λ k. b == k) seen (m ∷ []) ∙ or_left (is_on seen b) (is_on (m ∷ []) b) first.0,
    list_all-append (λ k. b == k || before b k) seen (m ∷ [])
        ∙ both_true (leads before b seen) (leads before b (m ∷ [])) first.1 (both_true (b == m || before b m) true (order.total m b later) refl),
  )

  or_goes : (seen : List ℕ) (b m : ℕ) → before m b ≡ true → IsFirst before seen (Some b) → IsFirst before (seen ++ m ∷ []) (Some m)
  or_goes seen b m sooner first = (
    list_any-append (λ k. m == k) seen (m ∷ []) ∙ or_right (is_on seen m) (is_on (m ∷ []) m) (or_left (m == m) false (eq-eqb m m refl)),
    list_all-append (λ k. m == k || before m k) seen (m ∷ [])
        ∙ both_true (leads before m seen) (leads before m (m ∷ []))
        (all_weaker (λ k. b == k || before b k) (λ k. m == k || before m k) (λ k after. or_right (m == k) (before m k) (order.onward m b k sooner after)) seen first.1)
        (both_true (m == m || before m m) true (or_left (m == m) (before m m) (eq-eqb m m refl)) refl),
  )

  -- one member more
  pub first_more : (seen : List ℕ) (kept : Option ℕ) (m : ℕ) → IsFirst before seen kept → IsFirst before (seen ++ m ∷ []) (Some (or_one before kept m))
  first_more seen None m none =
      subst (λ (ms : List ℕ). IsFirst before (ms ++ m ∷ []) (Some m)) (sym none)
      (or_left (m == m) false (eq-eqb m m refl), both_true (m == m || before m m) true (or_left (m == m) (before m m) (eq-eqb m m refl)) refl)
  first_more seen (Some b) m first =
      cond_both (before m b) m b (λ (k : ℕ). IsFirst before (seen ++ m ∷ []) (Some k)) (λ sooner. or_goes seen b m sooner first) (λ later. or_stays seen b m later first)

  -- one more of the members at the front
  pub first_front : (members : List ℕ) (i m : ℕ) (kept : Option ℕ) → i < length members → m ≡ get_or members i m → IsFirst before (take i members) kept →
      IsFirst before (take (i + 1) members) (Some (or_one before kept m))
  first_front members i m kept within here first =
      subst (λ (ms : List ℕ). IsFirst before ms (Some (or_one before kept m))) (ap (λ (k : ℕ). take i members ++ k ∷ []) here ∙ sym (take_more members i m within))
      (first_more (take i members) kept m first)

  -- and of those at the front that pass a test
  pub first_passes : (p : ℕ → Bool) (members : List ℕ) (i m : ℕ) (kept : Option ℕ) → i < length members → m ≡ get_or members i m → p m ≡ true →
      IsFirst before (filter p (take i members)) kept → IsFirst before (filter p (take (i + 1) members)) (Some (or_one before kept m))
  first_passes p members i m kept within here passes first =
      subst (λ (ms : List ℕ). IsFirst before ms (Some (or_one before kept m)))
      (sym (filter_more p members i m within ∙ ap (λ (k : ℕ). filter p (take i members) ++ cond (p k) (k ∷ []) []) (sym here)
      ∙ ap (λ (b : Bool). filter p (take i members) ++ cond b (m ∷ []) []) passes))
      (first_more (filter p (take i members)) kept m first)

  pub first_fails : (p : ℕ → Bool) (members : List ℕ) (i m : ℕ) (kept : Option ℕ) → i < length members → m ≡ get_or members i m → p m ≡ false →
      IsFirst before (filter p (take i members)) kept → IsFirst before (filter p (take (i + 1) members)) kept
  first_fails p members i m kept within here fails first =
      subst (λ (ms : List ℕ). IsFirst before ms kept)
      (sym (filter_more p members i m within ∙ ap (λ (k : ℕ). filter p (take i members) ++ cond (p k) (k ∷ []) []) (sym here)
      ∙ ap (λ (b : Bool). filter p (take i members) ++ cond b (m ∷ []) []) fails ∙ append-nil (filter p (take i members))))
      first
