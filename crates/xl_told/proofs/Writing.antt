-- The parts of a text, one after the other.
use Rattle.std.proofs.Common.{◌≡◌, ℕ, List, ◌++◌, ap, sym, ◌∙◌, append_assoc, Result, Ok, Err}
use Rattle.std.specs.Prelude.{OnOk}

pub then_written : (old xs ys so_far now : List ℕ) → so_far ≡ old ++ xs → now ≡ so_far ++ ys → now ≡ old ++ (xs ++ ys)
then_written old xs ys so_far now first more = more ∙ (ap (λ (t : List ℕ). t ++ ys) first ∙ append_assoc old xs ys)

pub last_written : {X E : Type 0} (old xs ys so_far now : List ℕ) (result : Result X E) → so_far ≡ old ++ xs → OnOk result (now ≡ so_far ++ ys) → OnOk result (now ≡ old ++ (xs ++ ys))
last_written old xs ys so_far now (Ok done) first more = then_written old xs ys so_far now first more
last_written old xs ys so_far now (Err fault) first more = tt

-- two parts are one
pub in_one : {X E : Type 0} (old xs ys zs now : List ℕ) (result : Result X E) → zs ≡ xs ++ ys → OnOk result (now ≡ (old ++ xs) ++ ys) → OnOk result (now ≡ old ++ zs)
in_one old xs ys zs now (Ok done) is more = more ∙ (append_assoc old xs ys ∙ ap (λ (t : List ℕ). old ++ t) (sym is))
in_one old xs ys zs now (Err fault) is more = tt

-- so are three, the first of which was written before
pub behind : {X E : Type 0} (old xs ys zs whole so_far now : List ℕ) (result : Result X E) → whole ≡ xs ++ (ys ++ zs) → so_far ≡ old ++ xs → OnOk result (now ≡ (so_far ++ ys) ++ zs) → OnOk result (now ≡ old ++ whole)
behind old xs ys zs whole so_far now (Ok done) is first more =
    more ∙ (append_assoc so_far ys zs ∙ (ap (λ (t : List ℕ). t ++ (ys ++ zs)) first ∙ (append_assoc old xs (ys ++ zs) ∙ ap (λ (t : List ℕ). old ++ t) (sym is))))
behind old xs ys zs whole so_far now (Err fault) is first more = tt
