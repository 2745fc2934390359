-- What a list contains, element by element, and what a filter leaves of it.
use Rattle.std.proofs.Common.{◌≡◌, suc, ◌⊎◌, Bool, true, false, List, [], ◌∷◌, refl, sym, ap, subst, ◌∙◌, inl, inr, arith}
use Rattle.std.specs.Prelude.{Contains, filter}
use Rattle.std.proofs.lemmas.Bool.{cases_Bool, cond-true, cond-false}
use Rattle.std.proofs.lemmas.List.Elements.{All-contains, All-contains_itself, All-filter, filter_passes, Contains-append_cases, Contains-push_cases}

module _ {X : Type 0} where
  pub none_among : (x : X) → Contains [] x → ⊥
  none_among x (k, lt, is) = omega (arith, lt)

  pub first_among : (x : X) (xs : List X) → Contains (x ∷ xs) x
  first_among x xs = (0, omega arith, refl)

  pub later_among : (y : X) (xs : List X) (x : X) → Contains xs x → Contains (y ∷ xs) x
  later_among y xs x (k, lt, is) = (suc k, omega (arith, lt), is)

  pub among_cases : (y : X) (xs : List X) (x : X) → Contains (y ∷ xs) x → (y ≡ x) ⊎ Contains xs x
  among_cases y xs x h =
      elim (Contains-append_cases (y ∷ []) xs x h) [
        | inl here ↦ elim (Contains-push_cases [] y x here) [
          | inl none ↦ absurd (none_among x none)
          | inr is ↦ inl is
        ]
        | inr later ↦ inr later
      ]

  pub among_filtered : (p : X → Bool) (xs : List X) (x : X) → Contains xs x → p x ≡ true → Contains (filter p xs) x
  among_filtered p [] x h passes = absurd (none_among x h)
  among_filtered p (y ∷ ys) x h passes =
      elim (cases_Bool (p y)) [
        | inl kept ↦ subst (λ (zs : List X). Contains zs x) (sym (cond-true (p y) (y ∷ filter p ys) (filter p ys) kept))
            (elim (among_cases y ys x h) [
              | inl is ↦ subst (λ (z : X). Contains (y ∷ filter p ys) z) is (first_among y (filter p ys))
              | inr later ↦ later_among y (filter p ys) x (among_filtered p ys x later passes)
            ])
        | inr lost ↦ subst (λ (zs : List X). Contains zs x) (sym (cond-false (p y) (y ∷ filter p ys) (filter p ys) lost))
            (elim (among_cases y ys x h) [
              | inl is ↦ absurd (let both : true ≡ false = sym passes ∙ ap p (sym is) ∙ lost in cc)
              | inr later ↦ among_filtered p ys x later passes
            ])
      ]

  pub among_all : (p : X → Bool) (xs : List X) (x : X) → Contains (filter p xs) x → Contains xs x
  among_all p xs x h = All-contains (Contains xs) (filter p xs) x (All-filter p (Contains xs) xs (All-contains_itself xs)) h

  pub among_passes : (p : X → Bool) (xs : List X) (x : X) → Contains (filter p xs) x → p x ≡ true
  among_passes p xs x h = All-contains (λ (z : X). p z ≡ true) (filter p xs) x (filter_passes p xs) h
