-- What the numbers of a range give, one after the other.
use Rattle.std.proofs.Common.{◌≡◌, ℕ, zero, suc, ◌+◌, ◌<◌, ◌≤◌, List, [], ◌∷◌, ◌++◌, Option, Some, None, refl, ap, sym, ◌∙◌, arith, inl, inr}
use Rattle.std.specs.Prelude.{filter_map, flat_map, option_to_list}
use Rattle.std.specs.List.{range_with_len, cons_option}
use Rattle.std.proofs.lemmas.Bool.{cases_eq}
use Rattle.std.proofs.lemmas.List.{append_assoc}

pub cons_is : {X : Type 0} (o : Option X) (xs : List X) → cons_option o xs ≡ option_to_list o ++ xs
cons_is None xs = refl
cons_is (Some x) xs = refl

pub filter_map_is : {X Y : Type 0} (h : X → Option Y) (xs : List X) → filter_map h xs ≡ flat_map (λ x. option_to_list (h x)) xs
filter_map_is h [] = refl
filter_map_is h (x ∷ xs) = cons_is (h x) (filter_map h xs) ∙ ap (λ ys. option_to_list (h x) ++ ys) (filter_map_is h xs)

pub flat_map_none : {X Y : Type 0} (f : X → List Y) → ((x : X) → f x ≡ []) → (xs : List X) → flat_map f xs ≡ []
flat_map_none f none [] = refl
flat_map_none f none (x ∷ xs) = ap (λ ys. ys ++ flat_map f xs) (none x) ∙ flat_map_none f none xs

pub flat_map_alike : {X Y : Type 0} (f g : X → List Y) → ((x : X) → f x ≡ g x) → (xs : List X) → flat_map f xs ≡ flat_map g xs
flat_map_alike f g alike [] = refl
flat_map_alike f g alike (x ∷ xs) = ap (λ ys. ys ++ flat_map f xs) (alike x) ∙ ap (λ ys. g x ++ ys) (flat_map_alike f g alike xs)

pub filter_map_none : {X Y : Type 0} (h : X → Option Y) → ((x : X) → h x ≡ None) → (xs : List X) → filter_map h xs ≡ []
filter_map_none h none [] = refl
filter_map_none h none (x ∷ xs) = ap (λ o. cons_option o (filter_map h xs)) (none x) ∙ filter_map_none h none xs

pub filter_map_alike : {X Y : Type 0} (h k : X → Option Y) → ((x : X) → h x ≡ k x) → (xs : List X) → filter_map h xs ≡ filter_map k xs
filter_map_alike h k alike [] = refl
filter_map_alike h k alike (x ∷ xs) = ap (λ o. cons_option o (filter_map h xs)) (alike x) ∙ ap (λ ys. cons_option (k x) ys) (filter_map_alike h k alike xs)

-- g gives what f gives, and at one number more in front; below that number there is nothing
pub record IsMoreAt {Y : Type 0} (k : ℕ) (front : List Y) (f g : ℕ → List Y) : Type 0 where
  pub here : g k ≡ front ++ f k
  pub others : (j : ℕ) → (j ≡ k → ⊥) → g j ≡ f j
  pub before : (j : ℕ) → j < k → f j ≡ []

above : {Y : Type 0} (k : ℕ) (front : List Y) (f g : ℕ → List Y) → IsMoreAt k front f g → (n a : ℕ) → k < a →
    flat_map g (range_with_len a n) ≡ flat_map f (range_with_len a n)
above k front f g more zero a past = refl
above k front f g more (suc n) a past =
    ap (λ ys. ys ++ flat_map g (range_with_len (a + 1) n)) (more.others a (λ e. omega arith))
    ∙ ap (λ ys. f a ++ ys) (above k front f g more n (a + 1) (omega arith))

-- so a range that has the number gives that much more in front
pub more_in_range : {Y : Type 0} (k : ℕ) (front : List Y) (f g : ℕ → List Y) → IsMoreAt k front f g → (n a : ℕ) → a ≤ k → k < a + n →
    flat_map g (range_with_len a n) ≡ front ++ flat_map f (range_with_len a n)
more_in_range k front f g more zero a low high = absurd (omega arith)
more_in_range {Y} k front f g more (suc n) a low high =
    let rest : List Y = flat_map f (range_with_len (a + 1) n) in
    elim (cases_eq a k) [
      | inl e ↦
          ap (λ ys. g a ++ ys) (above k front f g more n (a + 1) (omega arith))
          ∙ ap (λ ys. ys ++ flat_map f (range_with_len (a + 1) n)) (ap g e ∙ more.here ∙ ap (λ j. front ++ f j) (sym e))
          ∙ append_assoc front (f a) (flat_map f (range_with_len (a + 1) n))
      | inr ne ↦
          let below : a < k = omega (arith, ne) in
          ap (λ ys. ys ++ flat_map g (range_with_len (a + 1) n)) (more.others a ne ∙ more.before a below)
          ∙ more_in_range k front f g more n (a + 1) (omega arith) (omega arith)
          ∙ ap (λ ys. front ++ (ys ++ flat_map f (range_with_len (a + 1) n))) (sym (more.before a below))
    ]
