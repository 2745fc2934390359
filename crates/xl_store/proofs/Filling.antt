-- A list that is filled place by place.
use Rattle.std.proofs.Common.{◌≡◌, ℕ, ◌+◌, ◌<◌, List, [], ◌∷◌, ◌++◌, length, map, take, set, sym, ap, ◌∙◌}
use Rattle.std.proofs.lemmas.List.{take_more_set}
use Rattle.std.proofs.lemmas.List.FromFn.{map-range_with_len_more}
use Rattle.std.specs.List.{range_with_len}

module _ {X : Type 0} where
  -- one place more
  pub filled_more : (f : ℕ → X) (first place number : ℕ) (xs : List X) (x : X) → place < length xs
      → take place xs ≡ map f (range_with_len first place) → first + place ≡ number → x ≡ f number
      → take (place + 1) (set xs place x) ≡ map f (range_with_len first (place + 1))
  filled_more f first place number xs x within before at is =
      take_more_set xs place x within
      ∙ ap (λ (ys : List X). ys ++ x ∷ []) before
      ∙ ap (λ (y : X). map f (range_with_len first place) ++ y ∷ []) is
      ∙ sym (map-range_with_len_more f first place number at)
