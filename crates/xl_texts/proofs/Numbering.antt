-- What is written of one number after another.
use Rattle.std.proofs.Common.{◌≡◌, ℕ, suc, ◌+◌, ◌-◌, ◌≤◌, List, [], ◌∷◌, ◌++◌, arith, ap, sym, ◌∙◌, append_assoc}
use Rattle.std.specs.List.{flat_map}
use Rattle.std.proofs.lemmas.Grind.{flat_map-append}
use Rattle.std.proofs.lemmas.List.{append-nil}

-- over a list of so many numbers from one on
module _ (up_from : ℕ → ℕ → List ℕ) where
  -- nothing was written before the first number
  pub text_first : ((n : ℕ) → up_from n 0 ≡ []) → (f : ℕ → List ℕ) (n : ℕ) (old : List ℕ) → old ≡ old ++ flat_map f (up_from n (n - n))
  text_first none f n old =
      let at : n - n ≡ 0 = omega arith in
      sym (ap (λ (k : ℕ). old ++ flat_map f (up_from n k)) at ∙ (ap (λ (ns : List ℕ). old ++ flat_map f ns) (none n) ∙ append-nil old))

  module _ (one_more : (n k : ℕ) → up_from n (suc k) ≡ up_from n k ++ (n + k) ∷ []) (f : ℕ → List ℕ) where
    -- one number more
    flat_map_more : (n k : ℕ) → flat_map f (up_from n (suc k)) ≡ flat_map f (up_from n k) ++ f (n + k)
    flat_map_more n k =
        ap (flat_map f) (one_more n k) ∙ (flat_map-append f (up_from n k) ((n + k) ∷ []) ∙ ap (λ xs. flat_map f (up_from n k) ++ xs) (append-nil (f (n + k))))

    -- the text with the part of the number m, the first being n
    pub text_more : (n m : ℕ) (old so_far now : List ℕ) → n ≤ m → so_far ≡ old ++ flat_map f (up_from n (m - n)) → now ≡ so_far ++ f m → now ≡ old ++ flat_map f (up_from n (m + 1 - n))
    text_more n m old so_far now from is more =
        let at : n + (m - n) ≡ m = omega arith in
        let next : m + 1 - n ≡ suc (m - n) = omega arith in
        more ∙ (ap (λ xs. xs ++ f m) is
        ∙ (append_assoc old (flat_map f (up_from n (m - n))) (f m)
        ∙ ap (λ xs. old ++ xs) (ap (λ (k : ℕ). flat_map f (up_from n (m - n)) ++ f k) (sym at) ∙ (sym (flat_map_more n (m - n)) ∙ ap (λ (k : ℕ). flat_map f (up_from n k)) (sym next)))))
