-- The numbers that are declared, one after another.
use Rattle.std.proofs.Common.{◌≡◌, ℕ, zero, suc, ◌+◌, ◌-◌, ◌≤◌, Bool, cond, List, [], ◌∷◌, ◌++◌, arith, ap, sym, ◌∙◌, Option, Some, None}
use Rattle.std.specs.Prelude.{filter, option_to_list, if◌then◌else◌}
use Rattle.std.proofs.lemmas.Bool.{cond_both}
use Rattle.xl_world.specs.Plans.{up_from}

-- one number more
pub up_from_more : (n k : ℕ) → up_from n (suc k) ≡ up_from n k ++ (n + k) ∷ []
unfolding up_from
up_from_more n zero = let e : n ≡ n + 0 = omega arith in ap (λ (m : ℕ). m ∷ []) e
up_from_more n (suc k) = let e : (n + 1) + k ≡ n + suc k = omega arith in ap (λ xs. n ∷ xs) (up_from_more (n + 1) k ∙ ap (λ (m : ℕ). up_from (n + 1) k ++ m ∷ []) e)

-- what passes a test among some numbers and one more
pub filter_more : (p : ℕ → Bool) (xs : List ℕ) (x : ℕ) → filter p (xs ++ x ∷ []) ≡ filter p xs ++ option_to_list (if p x then Some x else None)
filter_more p [] x = cond_both (p x) (Some x) None (λ o. cond (p x) (x ∷ []) [] ≡ option_to_list o) (λ e. rw e) (λ e. rw e)
filter_more p (y ∷ ys) x =
    cond_both (p y) (y ∷ filter p (ys ++ x ∷ [])) (filter p (ys ++ x ∷ [])) (λ zs. zs ≡ cond (p y) (y ∷ filter p ys) (filter p ys) ++ option_to_list (if p x then Some x else None))
    (λ e. rw e (ap (λ zs. y ∷ zs) (filter_more p ys x))) (λ e. rw e (filter_more p ys x))

-- the declared ones, with one number more
pub numbers_more : (p : ℕ → Bool) (n : ℕ) (xs : List ℕ) (o : Option ℕ) → 1 ≤ n → xs ≡ filter p (up_from 1 (n - 1)) → o ≡ (if p n then Some n else None) → xs ++ option_to_list o ≡ filter p (up_from 1 (n + 1 - 1))
numbers_more p zero xs o some so_far is = absurd (omega arith)
numbers_more p (suc k) xs o some so_far is =
    let before : suc k - 1 ≡ k = omega arith in
    let after : suc k + 1 - 1 ≡ suc k = omega arith in
    let last : 1 + k ≡ suc k = omega arith in
    ap (λ ys. ys ++ option_to_list o) (so_far ∙ ap (λ (m : ℕ). filter p (up_from 1 m)) before)
    ∙ (ap (λ (q : Option ℕ). filter p (up_from 1 k) ++ option_to_list q) is
    ∙ (sym (filter_more p (up_from 1 k) (suc k))
    ∙ (ap (λ (m : ℕ). filter p (up_from 1 k ++ m ∷ [])) (sym last)
    ∙ (ap (filter p) (sym (up_from_more 1 k)) ∙ ap (λ (m : ℕ). filter p (up_from 1 m)) (sym after)))))
