-- Amendments are reported one after the other, and votes for the fee are counted one after the other.
use Rattle.std.proofs.Common.{◌≡◌, ℕ, zero, suc, ◌+◌, ◌<◌, ◌≤◌, Bool, List, [], ◌∷◌, ◌++◌, Option, Some, length, map, take, drop, get_or, set, refl, sym, ap, subst, ◌∙◌, arith, append_assoc}
use Rattle.std.specs.List.{flat_map}
use Rattle.std.proofs.lemmas.Grind.{flat_map-append}
use Rattle.std.proofs.lemmas.List.{take_more, take_all, map-append, append-nil}
use Rattle.xl_firsts.specs.Firsts.{or_one, IsOrder, IsFirst}
use Rattle.xl_firsts.proofs.Firsts.{first_more}

module _ {X : Type 0} (f : X → X) where
  -- what stands behind those that were changed is as it was
  pub get_front : (xs : List X) (i : ℕ) (d : X) → i < length xs → get_or (map f (take i xs) ++ drop i xs) i d ≡ get_or xs i d
  get_front [] i d lt = absurd (omega arith)
  get_front (x ∷ xs) zero d lt = refl
  get_front (x ∷ xs) (suc i) d lt = get_front xs i d (omega arith)

  -- one more is changed
  pub set_front : (xs : List X) (i : ℕ) (d : X) → i < length xs → set (map f (take i xs) ++ drop i xs) i (f (get_or xs i d)) ≡ map f (take (suc i) xs) ++ drop (suc i) xs
  set_front [] i d lt = absurd (omega arith)
  set_front (x ∷ xs) zero d lt = refl
  set_front (x ∷ xs) (suc i) d lt = ap (λ (ys : List X). f x ∷ ys) (set_front xs i d (omega arith))

  -- so it is where the changed one is put in its place
  pub changed_front : (xs ys : List X) (i : ℕ) (y d : X) → i < length xs → ys ≡ map f (take i xs) ++ drop i xs → y ≡ f (get_or ys i d) →
      set ys i y ≡ map f (take (i + 1) xs) ++ drop (i + 1) xs
  changed_front xs ys i y d lt is changed =
      let next : suc i ≡ i + 1 = omega arith in
      let here : y ≡ f (get_or xs i d) = changed ∙ ap f (ap (λ (zs : List X). get_or zs i d) is ∙ get_front xs i d lt) in
      ap (λ (zs : List X). set zs i y) is ∙ ap (set (map f (take i xs) ++ drop i xs) i) here ∙ set_front xs i d lt
      ∙ ap (λ (n : ℕ). map f (take n xs) ++ drop n xs) next

  pub all_changed : (xs ys : List X) (i : ℕ) → length xs ≤ i → ys ≡ map f (take i xs) ++ drop i xs → ys ≡ map f xs
  all_changed xs ys i le is = is ∙ ap (λ (zs : List X). map f zs ++ drop i xs) (take_all i xs le) ∙ ap (λ (zs : List X). map f xs ++ zs) (none_behind xs i le) ∙ append-nil (map f xs)
    where
      none_behind : (xs : List X) (i : ℕ) → length xs ≤ i → drop i xs ≡ []
      none_behind [] zero le = refl
      none_behind [] (suc i) le = refl
      none_behind (x ∷ xs) zero le = absurd (omega arith)
      none_behind (x ∷ xs) (suc i) le = none_behind xs i (omega arith)

  -- and what is said of each is said of one more
  pub said_more : {L : Type 0} (g : X → List L) (xs ys : List X) (i : ℕ) (d : X) (old lines now said : List L) → i < length xs → ys ≡ map f (take i xs) ++ drop i xs →
      lines ≡ old ++ flat_map g (take i xs) → said ≡ g (get_or ys i d) → now ≡ lines ++ said → now ≡ old ++ flat_map g (take (i + 1) xs)
  said_more {L = L} g xs ys i d old lines now said lt is before told more =
      let here : said ≡ g (get_or xs i d) = told ∙ ap g (ap (λ (zs : List X). get_or zs i d) is ∙ get_front xs i d lt) in
      more ∙ ap (λ (ls : List L). ls ++ said) before ∙ append_assoc old (flat_map g (take i xs)) said
      ∙ ap (λ (ls : List L). old ++ (flat_map g (take i xs) ++ ls)) (here ∙ sym (append-nil (g (get_or xs i d))))
      ∙ ap (λ (ls : List L). old ++ ls) (sym (flat_map-append g (take i xs) (get_or xs i d ∷ [])))
      ∙ ap (λ (zs : List X). old ++ flat_map g zs) (sym (take_more xs i d lt))

-- one more of some at the front, each by what is made of it
pub first_mapped : (before : ℕ → ℕ → Bool) (order : IsOrder before) (f : ℕ → ℕ) (xs : List ℕ) (i x y : ℕ) (kept : Option ℕ) → i < length xs → x ≡ get_or xs i x → y ≡ f x →
    IsFirst before (map f (take i xs)) kept → IsFirst before (map f (take (i + 1) xs)) (Some (or_one before kept y))
first_mapped before order f xs i x y kept lt here is first =
    subst (λ (ys : List ℕ). IsFirst before ys (Some (or_one before kept y)))
    (ap (λ (k : ℕ). map f (take i xs) ++ k ∷ []) (is ∙ ap f here) ∙ sym (map-append f (take i xs) (get_or xs i x ∷ [])) ∙ ap (map f) (sym (take_more xs i x lt)))
    (first_more before order (map f (take i xs)) kept y first)
