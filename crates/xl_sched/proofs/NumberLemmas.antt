-- The value of digits, one digit after another.
use Rattle.std.proofs.Common.{◌≡◌, ◌+◌, ◌*◌, ◌≤◌, ◌<◌, ℕ, Bool, true, List, [], ◌∷◌, length, drop, get_or, sym, ◌∙◌, arith, rules, tests}
use Rattle.std.specs.List.{list_all}
use Rattle.std.specs.Char.{is_ascii_digit, digit_value}
use Rattle.std.specs.Str.Parse.{digits_value_after}
use Rattle.std.proofs.lemmas.List.{at_drop_more}
use Rattle.std.proofs.lemmas.Str.{digit_value_digit}
use Rattle.std.proofs.lemmas.Bool.Decides.{nat_tests}

-- more digits make no number smaller
pub digits_value_after-ge : (n : ℕ) (ds : List ℕ) → n ≤ digits_value_after 10 n ds
digits_value_after-ge n [] = omega arith
digits_value_after-ge n (d ∷ ds) = omega (arith, digits_value_after-ge (n * 10 + digit_value d) ds)

-- a number is at least what its digits up to here write
pub digits_value_after-step : (ds : List ℕ) (i n : ℕ) → i < length ds → n * 10 + digit_value (get_or ds i 0) ≤ digits_value_after 10 n (drop i ds)
digits_value_after-step ds i n h =
    omega (arith, at_drop_more (digits_value_after 10 n) ds i 0 h, digits_value_after-ge (n * 10 + digit_value (get_or ds i 0)) (drop (i + 1) ds))

first_of_all : (p : ℕ → Bool) (x : ℕ) (xs : List ℕ) → list_all p (x ∷ xs) ≡ true → p x ≡ true
first_of_all p x xs h = search (rules, tests)

-- the value of a digit among digits
pub digit_value-here : (ds : List ℕ) (i : ℕ) → i < length ds → list_all is_ascii_digit (drop i ds) ≡ true → digit_value (get_or ds i 0) + 48 ≡ get_or ds i 0
digit_value-here ds i h all =
    let here = first_of_all is_ascii_digit (get_or ds i 0) (drop (i + 1) ds) (sym (at_drop_more (list_all is_ascii_digit) ds i 0 h) ∙ all) in
    digit_value_digit (get_or ds i 0) (grind (arith, nat_tests), grind (arith, nat_tests))
