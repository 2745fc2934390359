-- Places that leave no trace, in lists that are merged with others that may leave some.
use Rattle.std.proofs.Common.{◌≡◌, ◌⊎◌, ◌≤◌, ◌++◌, ℕ, Bool, true, false, List, [], ◌∷◌, refl, sym, ap, ◌∙◌, subst, arith, inl, inr, cond}
use Rattle.std.specs.Prelude.{ltb}
use Rattle.std.proofs.lemmas.Bool.{ltb-true, ltb-false}
use Rattle.std.specs.List.{AllByRecursion, flat_map}
use Rattle.xl_turns.specs.Places.{insert_place, merge}
use Rattle.xl_workers.specs.Sharing.{merge_all}

-- no place is above a later one
abbrev pub IsSorted : List ℕ → Type 0
IsSorted [] = Unit {0}
IsSorted (x ∷ xs) = AllByRecursion (λ y. x ≤ y) xs × IsSorted xs

all_lower : (p q : ℕ) (xs : List ℕ) → p ≤ q → AllByRecursion (λ y. q ≤ y) xs → AllByRecursion (λ y. p ≤ y) xs
all_lower p q [] le all = tt
all_lower p q (x ∷ xs) le all = (let h = all.0 in omega (arith, le, h), all_lower p q xs le all.1)

inserted_case : (P : ℕ → Type 0) (p x : ℕ) (xs : List ℕ) (b : Bool) → P p → P x → AllByRecursion P xs
    → AllByRecursion P (insert_place p xs) → AllByRecursion P (cond b (p ∷ x ∷ xs) (x ∷ insert_place p xs))
inserted_case P p x xs true h k all more = (h, (k, all))
inserted_case P p x xs false h k all more = (k, more)

all_inserted : (P : ℕ → Type 0) (p : ℕ) (xs : List ℕ) → P p → AllByRecursion P xs → AllByRecursion P (insert_place p xs)
all_inserted P p [] h all = (h, tt)
all_inserted P p (x ∷ xs) h all = inserted_case P p x xs (ltb p x) h all.0 all.1 (all_inserted P p xs h all.1)

all_merged : (P : ℕ → Type 0) (xs ys : List ℕ) → AllByRecursion P xs → AllByRecursion P ys
    → AllByRecursion P (merge xs ys)
all_merged P [] ys all more = more
all_merged P (x ∷ xs) ys all more = all_inserted P x (merge xs ys) all.0 (all_merged P xs ys all.1 more)

sorted_case : (p x : ℕ) (xs : List ℕ) (b : Bool) → ltb p x ≡ b → IsSorted (x ∷ xs) → IsSorted (insert_place p xs)
    → IsSorted (cond b (p ∷ x ∷ xs) (x ∷ insert_place p xs))
sorted_case p x xs true is all more =
    let le : p ≤ x = (let h = ltb-true p x is in omega (arith, h)) in
    ((le, all_lower p x xs le all.0), all)
sorted_case p x xs false is all more =
    (all_inserted (λ y. x ≤ y) p xs (ltb-false p x is) all.0, more)

sorted_inserted : (p : ℕ) (xs : List ℕ) → IsSorted xs → IsSorted (insert_place p xs)
sorted_inserted p [] all = (tt, tt)
sorted_inserted p (x ∷ xs) all = sorted_case p x xs (ltb p x) refl all (sorted_inserted p xs all.1)

sorted_merged : (xs ys : List ℕ) → IsSorted ys → IsSorted (merge xs ys)
sorted_merged [] ys all = all
sorted_merged (x ∷ xs) ys all = sorted_inserted x (merge xs ys) (sorted_merged xs ys all)

module _ {A : Type 0} (f : ℕ → List A) where
  -- a place has no trace
  abbrev pub IsSilent : ℕ → Type 0
  IsSilent p = f p ≡ []

  pub none_of_silent : (xs : List ℕ) → AllByRecursion IsSilent xs → flat_map f xs ≡ []
  none_of_silent [] all = refl
  none_of_silent (x ∷ xs) all = ap (λ (l : List A). l ++ flat_map f xs) all.0 ∙ none_of_silent xs all.1

  silent_case : (p x : ℕ) (xs : List ℕ) (b : Bool) → IsSilent p → flat_map f (insert_place p xs) ≡ flat_map f xs
      → flat_map f (cond b (p ∷ x ∷ xs) (x ∷ insert_place p xs)) ≡ f x ++ flat_map f xs
  silent_case p x xs true silent e = ap (λ (l : List A). l ++ (f x ++ flat_map f xs)) silent
  silent_case p x xs false silent e = ap (λ (l : List A). f x ++ l) e

  silent_inserted : (p : ℕ) (xs : List ℕ) → IsSilent p → flat_map f (insert_place p xs) ≡ flat_map f xs
  silent_inserted p [] silent = ap (λ (l : List A). l ++ []) silent
  silent_inserted p (x ∷ xs) silent = silent_case p x xs (ltb p x) silent (silent_inserted p xs silent)

  -- the first list has no trace
  pub silent_first : (xs ys : List ℕ) → AllByRecursion IsSilent xs → flat_map f (merge xs ys) ≡ flat_map f ys
  silent_first [] ys all = refl
  silent_first (x ∷ xs) ys all = silent_inserted x (merge xs ys) all.0 ∙ silent_first xs ys all.1

  -- the place has no trace, or isn't below this one
  abbrev IsPast : ℕ → ℕ → Type 0
  IsPast p x = IsSilent x ⊎ (p ≤ x)

  swapped : (p x : ℕ) (rest : List A) → x ≤ p → IsPast p x → f x ++ (f p ++ rest) ≡ f p ++ (f x ++ rest)
  swapped p x rest le (inl silent) =
      ap (λ (l : List A). l ++ (f p ++ rest)) silent ∙ ap (λ (l : List A). f p ++ (l ++ rest)) (sym silent)
  swapped p x rest le (inr more) =
      let same : p ≡ x = omega (arith, le, more) in
      subst (λ (y : ℕ). f y ++ (f p ++ rest) ≡ f p ++ (f y ++ rest)) same refl

  past_case : (p x : ℕ) (xs : List ℕ) (b : Bool) → ltb p x ≡ b → IsPast p x
      → flat_map f (insert_place p xs) ≡ f p ++ flat_map f xs
      → flat_map f (cond b (p ∷ x ∷ xs) (x ∷ insert_place p xs)) ≡ f p ++ (f x ++ flat_map f xs)
  past_case p x xs true is past e = refl
  past_case p x xs false is past e =
      ap (λ (l : List A). f x ++ l) e ∙ swapped p x (flat_map f xs) (ltb-false p x is) past

  -- all places below the new one have no trace
  past_inserted : (p : ℕ) (xs : List ℕ) → AllByRecursion (IsPast p) xs
      → flat_map f (insert_place p xs) ≡ f p ++ flat_map f xs
  past_inserted p [] all = refl
  past_inserted p (x ∷ xs) all = past_case p x xs (ltb p x) refl all.0 (past_inserted p xs all.1)

  later_past : (p : ℕ) (xs : List ℕ) → AllByRecursion (λ y. p ≤ y) xs → AllByRecursion (IsPast p) xs
  later_past p [] all = tt
  later_past p (x ∷ xs) all = (inr all.0, later_past p xs all.1)

  silent_past : (p : ℕ) (xs : List ℕ) → AllByRecursion IsSilent xs → AllByRecursion (IsPast p) xs
  silent_past p [] all = tt
  silent_past p (x ∷ xs) all = (inl all.0, silent_past p xs all.1)

  -- the second list has no trace
  pub silent_second : (xs ys : List ℕ) → IsSorted xs → AllByRecursion IsSilent ys
      → flat_map f (merge xs ys) ≡ flat_map f xs
  silent_second [] ys sorted all = none_of_silent ys all
  silent_second (x ∷ xs) ys sorted all =
      past_inserted x (merge xs ys)
      (all_merged (IsPast x) xs ys (later_past x xs sorted.0) (silent_past x ys all))
      ∙ ap (λ (l : List A). f x ++ l) (silent_second xs ys sorted.1 all)

  -- the lists beside the first have no trace
  pub silent_rest : (xs : List ℕ) (parts : List (List ℕ)) → IsSorted xs → AllByRecursion IsSorted parts
      → AllByRecursion (AllByRecursion IsSilent) parts → flat_map f (merge_all xs parts) ≡ flat_map f xs
  silent_rest xs [] sorted each all = refl
  silent_rest xs (ys ∷ parts) sorted each all =
      silent_rest (merge xs ys) parts (sorted_merged xs ys each.0) each.1 all.1
      ∙ silent_second xs ys sorted all.0

  -- only the second of all has a trace
  pub silent_but_second : (xs ys : List ℕ) (parts : List (List ℕ)) → IsSorted ys → AllByRecursion IsSorted parts
      → AllByRecursion IsSilent xs → AllByRecursion (AllByRecursion IsSilent) parts
      → flat_map f (merge_all xs (ys ∷ parts)) ≡ flat_map f ys
  silent_but_second xs ys parts sorted each first all =
      silent_rest (merge xs ys) parts (sorted_merged xs ys sorted) each all ∙ silent_first xs ys first
