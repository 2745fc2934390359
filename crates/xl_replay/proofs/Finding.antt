-- What stands at the first place that passes a test is the first that passes it.
use Rattle.std.proofs.Common.{refl, ◌≡◌, ℕ, zero, suc, ◌<◌, Bool, true, false, List, [], ◌∷◌, length, get_or, arith, inl, inr, ◌∙◌, Some, None}
use Rattle.std.specs.Prelude.{find, position, nat_lt}
use Rattle.std.specs.List.{position_or_len}
use Rattle.std.proofs.lemmas.Bool.{cases_lt, cond-true, cond-false, lt-ltb}
use Rattle.std.proofs.lemmas.List.Sums.{fails_before_first}
use Rattle.std.proofs.lemmas.List.Quantifiers.{position-Some}

first_found : {X : Type 0} (p : X → Bool) (xs : List X) (k : ℕ) (d : X) → k < length xs → p (get_or xs k d) ≡ true → ((j : ℕ) → j < k → p (get_or xs j d) ≡ false) → find p xs ≡ Some (get_or xs k d)
first_found p [] k d k_in is first = absurd (omega arith)
first_found p (x ∷ xs) zero d k_in is first = cond-true (p x) _ _ is
first_found p (x ∷ xs) (suc k) d k_in is first = cond-false (p x) _ _ (first 0 (omega arith)) ∙ first_found p xs k d (omega arith) is (λ j h. first (suc j) (omega arith))

pub found_there : {X : Type 0} (p : X → Bool) (xs : List X) (k : ℕ) (d : X) → position p xs ≡ Some k → find p xs ≡ Some (get_or xs k d)
found_there p xs k d found = let at = position-Some p xs k d found in first_found p xs k d at.0 at.1 (λ j h. at.2 j h)

nowhere : {X : Type 0} (p : X → Bool) (xs : List X) → ((j : ℕ) (d : X) → j < length xs → p (get_or xs j d) ≡ false) → find p xs ≡ None
nowhere p [] none = refl
nowhere p (x ∷ xs) none = cond-false (p x) _ _ (none 0 x (omega arith)) ∙ nowhere p xs (λ j d h. none (suc j) d (omega arith))

none_found : {X : Type 0} (p : X → Bool) (xs : List X) → position p xs ≡ None → (j : ℕ) (d : X) → j < length xs → p (get_or xs j d) ≡ false
none_found p xs none j d j_in =
    elim (cases_lt (position_or_len p xs) (length xs)) [
      | inl within ↦ let some = cond-true (nat_lt (position_or_len p xs) (length xs)) (Some (position_or_len p xs)) None (lt-ltb _ _ within) in cc
      | inr past ↦ fails_before_first p xs j d (omega arith)
    ]

pub found_nowhere : {X : Type 0} (p : X → Bool) (xs : List X) → position p xs ≡ None → find p xs ≡ None
found_nowhere p xs none = nowhere p xs (none_found p xs none)
