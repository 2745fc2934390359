-- The numbers from one on, one more at a time.
use Rattle.std.proofs.Common.{◌≡◌, ℕ, zero, suc, ◌+◌, List, [], ◌∷◌, ◌++◌, arith, refl, ap, ◌∙◌}
use Rattle.xl_pairs.specs.Texts.{up_from}

pub up_from_none : (n : ℕ) → up_from n 0 ≡ []
unfolding up_from
up_from_none n = refl

pub up_from_more : (n k : ℕ) → up_from n (suc k) ≡ up_from n k ++ (n + k) ∷ []
unfolding up_from
up_from_more n zero = let e : n ≡ n + 0 = omega arith in ap (λ (m : ℕ). m ∷ []) e
up_from_more n (suc k) =
    let e : (n + 1) + k ≡ n + suc k = omega arith in
    ap (λ xs. n ∷ xs) (up_from_more (n + 1) k ∙ ap (λ (m : ℕ). up_from (n + 1) k ++ m ∷ []) e)
