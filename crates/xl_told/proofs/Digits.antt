-- A number of few digits, digit after digit.
use Rattle.std.proofs.Common.{◌≡◌, ℕ, ◌+◌, ◌/◌, ◌%◌, ◌<◌, ◌≤◌, List, ◌∷◌, [], ◌++◌, ap, sym, ◌∙◌, append_assoc, arith}
use Rattle.std.specs.Prelude.{decimal}
use Rattle.std.proofs.lemmas.Fmt.{decimal_digit, decimal_step}

one_more : (n : ℕ) → 10 ≤ n → n < 10000 → decimal n ≡ decimal (n / 10) ++ decimal (n % 10)
one_more n low high = decimal_step n low (omega (arith, high)) ∙ ap (λ (xs : List ℕ). decimal (n / 10) ++ xs) (sym (decimal_digit (n % 10) (omega arith)))

pub two_digits : (n : ℕ) → 10 ≤ n → n < 100 → decimal n ≡ decimal (n / 10) ++ decimal (n % 10)
two_digits n low high = one_more n low (omega (arith, high))

pub four_digits : (n : ℕ) → 100 ≤ n → n < 10000 → decimal n ≡ decimal (n / 100) ++ (decimal (n % 100 / 10) ++ decimal (n % 100 % 10))
four_digits n low high =
    let hundreds : n / 10 / 10 ≡ n / 100 = omega arith in
    let tens : n / 10 % 10 ≡ n % 100 / 10 = omega arith in
    let ones : n % 10 ≡ n % 100 % 10 = omega arith in
    one_more n (omega (arith, low)) high
    ∙ (ap (λ (xs : List ℕ). xs ++ decimal (n % 10)) (one_more (n / 10) (omega (arith, low)) (omega (arith, high)))
    ∙ (append_assoc (decimal (n / 10 / 10)) (decimal (n / 10 % 10)) (decimal (n % 10))
    ∙ (ap (λ (k : ℕ). decimal k ++ (decimal (n / 10 % 10) ++ decimal (n % 10))) hundreds
    ∙ (ap (λ (k : ℕ). decimal (n / 100) ++ (decimal k ++ decimal (n % 10))) tens
    ∙ ap (λ (k : ℕ). decimal (n / 100) ++ (decimal (n % 100 / 10) ++ decimal k)) ones))))
