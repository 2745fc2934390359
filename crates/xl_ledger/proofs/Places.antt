-- The first place in a list at which a test passes.
use Rattle.std.proofs.Common.{◌≡◌, ℕ, zero, suc, ◌<◌, ◌≤◌, Bool, true, false, cond, ltb, List, [], ◌∷◌, ◌++◌, length, get_or, Some, None, slice_get, refl, sym, ap, subst, ◌∙◌, arith}
use Rattle.std.specs.Prelude.{position}
use Rattle.std.specs.List.{position_or_len}
use Rattle.std.proofs.lemmas.Bool.{ltb-false}
use Rattle.std.proofs.lemmas.Bool.Decides.{nat_tests}
use Rattle.std.proofs.lemmas.List.Sums.{position_or_len_is, fails_before_first}

module _ {X : Type 0} (p : X → Bool) where
  some_if : (b : Bool) (n : ℕ) → b ≡ true → cond b (Some n) None ≡ Some n
  some_if true n e = refl
  some_if false n e = absurd cc

  none_if : (b : Bool) (n : ℕ) → b ≡ false → cond b (Some n) None ≡ None
  none_if true n e = absurd cc
  none_if false n e = refl

  not_some : (b : Bool) (n : ℕ) → cond b (Some n) None ≡ None → b ≡ false
  not_some true n e = absurd cc
  not_some false n e = refl

  pub position_is : (xs : List X) (i : ℕ) (d : X) → i < length xs → p (get_or xs i d) ≡ true → ((k : ℕ) → k < i → p (get_or xs k d) ≡ false) → position p xs ≡ Some i
  position_is xs i d lt passes others =
      let at : position_or_len p xs ≡ i = position_or_len_is p xs i d (omega arith) others (λ _. passes) in
      ap (λ (n : ℕ). cond (ltb n (length xs)) (Some n) None) at ∙ some_if (ltb i (length xs)) i (grind (arith, nat_tests))

  pub position_none : (xs : List X) (d : X) → ((k : ℕ) → k < length xs → p (get_or xs k d) ≡ false) → position p xs ≡ None
  position_none xs d others =
      let at : position_or_len p xs ≡ length xs = position_or_len_is p xs (length xs) d (omega arith) others (λ lt. absurd (omega arith)) in
      ap (λ (n : ℕ). cond (ltb n (length xs)) (Some n) None) at ∙ none_if (ltb (length xs) (length xs)) (length xs) (grind (arith, nat_tests))

  pub none_at : (xs : List X) (d : X) → position p xs ≡ None → (k : ℕ) → k < length xs → p (get_or xs k d) ≡ false
  none_at xs d none k lt =
      let past : length xs ≤ position_or_len p xs = ltb-false _ _ (not_some (ltb (position_or_len p xs) (length xs)) (position_or_len p xs) none) in
      fails_before_first p xs k d (omega arith)

-- an element in front stays where it is
pub slice_get-front : {X : Type 0} (xs ys : List X) (i : ℕ) → i < length xs → slice_get (xs ++ ys) i ≡ slice_get xs i
slice_get-front [] ys i lt = absurd (omega arith)
slice_get-front (x ∷ xs) ys zero lt = refl
slice_get-front (x ∷ xs) ys (suc i) lt = slice_get-front xs ys i (omega arith)

-- the element at the seam
pub slice_get-seam : {X : Type 0} (xs : List X) (y : X) (i : ℕ) → i ≡ length xs → slice_get (xs ++ y ∷ []) i ≡ Some y
slice_get-seam [] y i e = subst (λ (n : ℕ). slice_get (y ∷ []) n ≡ Some y) (sym e) refl
slice_get-seam (x ∷ xs) y zero e = absurd (omega arith)
slice_get-seam (x ∷ xs) y (suc i) e = slice_get-seam xs y i (omega arith)
