-- Members by rising number: each once, and no others.
use Rattle.std.proofs.Common.{◌≡◌, ℕ, zero, suc, ◌+◌, ◌-◌, ◌<◌, ◌≤◌, Bool, true, false, cond, List, [], ◌∷◌, ◌++◌, length, refl, sym, ap, subst, ◌∙◌, inl, inr, arith}
use Rattle.std.specs.Prelude.{filter, count_by, ◌==◌, ◌&&◌, ◌||◌, nat_le, nat_lt, nat_eq, All}
use Rattle.std.specs.List.{range_with_len, IsDistinct, AllByRecursion}
use Rattle.std.proofs.lemmas.Bool.{cases_Bool, cases_eq, cond-true, cond-false}
use Rattle.std.proofs.lemmas.Bool.Decides.{nat_tests}
use Rattle.std.proofs.lemmas.List.Elements.{filter-append, All-nil, All-cons, All-head, All-tail}
use Rattle.std.proofs.lemmas.List.Sums.{length-filter, count_by-le-length}
use Rattle.std.proofs.lemmas.List.FromFn.{length-range_with_len}
use Rattle.xl_lists.specs.Lists.{is_on, all_numbers, rising}
use Rattle.xl_base.specs.Members.{greatest_node_no}
use Rattle.xl_lists.proofs.Counting.{count_by-cons, count_shared}

-- ---- what passes of the first numbers

-- one number more
pub range_more : (a n : ℕ) → range_with_len a (suc n) ≡ range_with_len a n ++ (a + n) ∷ []
range_more a zero = ap (λ (k : ℕ). k ∷ []) (omega arith)
range_more a (suc n) = ap (λ (xs : List ℕ). a ∷ xs) (range_more (a + 1) n ∙ ap (λ (k : ℕ). range_with_len (a + 1) n ++ k ∷ []) (omega arith))

-- the numbers below this one that pass
abbrev pub passed : (ℕ → Bool) → ℕ → List ℕ
passed p number = filter p (range_with_len 1 (number - 1))

passed_more : (p : ℕ → Bool) (number : ℕ) → 1 ≤ number → passed p (number + 1) ≡ passed p number ++ cond (p number) (number ∷ []) []
passed_more p number low =
    let count : number + 1 - 1 ≡ suc (number - 1) = omega arith in
    let last : 1 + (number - 1) ≡ number = omega arith in
    ap (λ (k : ℕ). filter p (range_with_len 1 k)) count
    ∙ ap (filter p) (range_more 1 (number - 1))
    ∙ filter-append p (range_with_len 1 (number - 1)) ((1 + (number - 1)) ∷ [])
    ∙ ap (λ (k : ℕ). passed p number ++ cond (p k) (k ∷ []) []) last

pub passed_on : (p : ℕ → Bool) (number : ℕ) → 1 ≤ number → p number ≡ true → passed p (number + 1) ≡ passed p number ++ number ∷ []
passed_on p number low on = passed_more p number low ∙ ap (λ (xs : List ℕ). passed p number ++ xs) (cond-true (p number) (number ∷ []) [] on)

append_none : (xs : List ℕ) → xs ++ [] ≡ xs
append_none [] = refl
append_none (x ∷ xs) = ap (λ (ys : List ℕ). x ∷ ys) (append_none xs)

pub passed_over : (p : ℕ → Bool) (number : ℕ) → 1 ≤ number → p number ≡ false → passed p (number + 1) ≡ passed p number
passed_over p number low off = passed_more p number low ∙ ap (λ (xs : List ℕ). passed p number ++ xs) (cond-false (p number) (number ∷ []) [] off) ∙ append_none (passed p number)

pub passed_few : (p : ℕ → Bool) (number : ℕ) → length (passed p number) ≤ number - 1
passed_few p number =
    omega (arith, length-filter p (range_with_len 1 (number - 1)), count_by-le-length p (range_with_len 1 (number - 1)), length-range_with_len 1 (number - 1))

-- the numbers below 65 are all
pub passed_all : (p : ℕ → Bool) (number : ℕ) → number ≡ (greatest_node_no + 1) → passed p number ≡ filter p all_numbers
unfolding all_numbers
passed_all p number last = ap (λ (k : ℕ). filter p (range_with_len 1 k)) (let count : number - 1 ≡ 64 = omega arith in count)

-- ---- who is on what passes

here : (m a n : ℕ) (on : Bool) → m ≡ a → on ≡ true → ((m == a) || (on && (nat_le (a + 1) m && nat_lt m (a + 1 + n)))) ≡ (on && (nat_le a m && nat_lt m (a + suc n)))
here m a n on is h = grind (arith, nat_tests)

there : (m a n : ℕ) (on : Bool) → (m ≡ a → ⊥) → ((m == a) || (on && (nat_le (a + 1) m && nat_lt m (a + 1 + n)))) ≡ (on && (nat_le a m && nat_lt m (a + suc n)))
there m a n on isnt = grind (arith, nat_tests)

over : (m a n : ℕ) (on : Bool) → (m ≡ a → on ≡ false) → (on && (nat_le (a + 1) m && nat_lt m (a + 1 + n))) ≡ (on && (nat_le a m && nat_lt m (a + suc n)))
over m a n on off = grind (arith, nat_tests)

nowhere : (on : Bool) (m a : ℕ) → false ≡ (on && (nat_le a m && nat_lt m (a + 0)))
nowhere on m a = grind (arith, nat_tests)

-- a number is on what passes of a range exactly if it passes and lies in the range
on_filter : (p : ℕ → Bool) (m a n : ℕ) → is_on (filter p (range_with_len a n)) m ≡ (p m && (nat_le a m && nat_lt m (a + n)))
on_filter p m a zero = nowhere (p m) m a
on_filter p m a (suc n) =
    let rest : is_on (filter p (range_with_len (a + 1) n)) m ≡ (p m && (nat_le (a + 1) m && nat_lt m (a + 1 + n))) = on_filter p m (a + 1) n in
    elim (cases_Bool (p a)) [
      | inl kept ↦
          ap (λ (xs : List ℕ). is_on xs m) (cond-true (p a) (a ∷ filter p (range_with_len (a + 1) n)) (filter p (range_with_len (a + 1) n)) kept)
          ∙ ap (λ (b : Bool). (m == a) || b) rest
          ∙ elim (cases_eq m a) [
            | inl is ↦ here m a n (p m) is (ap p is ∙ kept)
            | inr isnt ↦ there m a n (p m) isnt
          ]
      | inr lost ↦
          ap (λ (xs : List ℕ). is_on xs m) (cond-false (p a) (a ∷ filter p (range_with_len (a + 1) n)) (filter p (range_with_len (a + 1) n)) lost)
          ∙ rest
          ∙ over m a n (p m) (λ is. ap p is ∙ lost)
    ]

in_all : (on : Bool) (m n : ℕ) → n ≡ 64 → (on ≡ true → (1 ≤ m) × (m ≤ 64)) → (on && (nat_le 1 m && nat_lt m (1 + n))) ≡ on
in_all true m n last h = grind (arith, nat_tests, h refl)
in_all false m n last h = refl

on_same : (b : Bool) (m k : ℕ) (ms : List ℕ) → (m == k) ≡ true → (1 ≤ k) × (k ≤ 64) → (1 ≤ m) × (m ≤ 64)
on_same b m k ms is h = (grind (arith, nat_tests, is, h.0), grind (arith, nat_tests, is, h.1))

-- a member on the list is in range, as each is
pub on_in_range : (ms : List ℕ) → All (λ m. (1 ≤ m) × (m ≤ 64)) ms → (m : ℕ) → is_on ms m ≡ true → (1 ≤ m) × (m ≤ 64)
on_in_range [] h m on = absurd cc
on_in_range (k ∷ ms) h m on =
    elim (cases_Bool (m == k)) [
      | inl is ↦ on_same true m k ms is (All-head (λ m. (1 ≤ m) × (m ≤ 64)) k ms h)
      | inr isnt ↦ on_in_range ms (All-tail (λ m. (1 ≤ m) × (m ≤ 64)) k ms h) m (sym (ap (λ (b : Bool). b || is_on ms m) isnt) ∙ on)
    ]

-- the same are on the list by rising number
pub on_rising : (ms : List ℕ) → All (λ m. (1 ≤ m) × (m ≤ 64)) ms → (m : ℕ) → is_on (rising ms) m ≡ is_on ms m
unfolding all_numbers
on_rising ms h m = on_filter (is_on ms) m 1 64 ∙ in_all (is_on ms m) m 64 refl (on_in_range ms h m)

-- ---- two tests alike pass the same

pub filter_alike : (p q : ℕ → Bool) → ((m : ℕ) → p m ≡ q m) → (xs : List ℕ) → filter p xs ≡ filter q xs
filter_alike p q alike [] = refl
filter_alike p q alike (x ∷ xs) =
    elim (cases_Bool (p x)) [
      | inl kept ↦ cond-true (p x) (x ∷ filter p xs) (filter p xs) kept ∙ ap (λ (ys : List ℕ). x ∷ ys) (filter_alike p q alike xs)
          ∙ sym (cond-true (q x) (x ∷ filter q xs) (filter q xs) (sym (alike x) ∙ kept))
      | inr lost ↦ cond-false (p x) (x ∷ filter p xs) (filter p xs) lost ∙ filter_alike p q alike xs
          ∙ sym (cond-false (q x) (x ∷ filter q xs) (filter q xs) (sym (alike x) ∙ lost))
    ]

-- what rises stays as it is
pub rising_again : (ms : List ℕ) → All (λ m. (1 ≤ m) × (m ≤ 64)) ms → rising (rising ms) ≡ rising ms
rising_again ms h = filter_alike (is_on (rising ms)) (is_on ms) (on_rising ms h) all_numbers

-- ---- each once

other : (before a : ℕ) → before < a → nat_eq before a ≡ false
other before a lt = grind (arith, nat_tests)

apart_filter : (p : ℕ → Bool) (before a n : ℕ) → before < a → AllByRecursion (λ y. nat_eq before y ≡ false) (filter p (range_with_len a n))
apart_filter p before a zero lt = tt
apart_filter p before a (suc n) lt =
    let rest : AllByRecursion (λ y. nat_eq before y ≡ false) (filter p (range_with_len (a + 1) n)) = apart_filter p before (a + 1) n (omega arith) in
    elim (cases_Bool (p a)) [
      | inl kept ↦ subst (AllByRecursion (λ y. nat_eq before y ≡ false)) (sym (cond-true (p a) (a ∷ filter p (range_with_len (a + 1) n)) (filter p (range_with_len (a + 1) n)) kept)) (other before a lt, rest)
      | inr lost ↦ subst (AllByRecursion (λ y. nat_eq before y ≡ false)) (sym (cond-false (p a) (a ∷ filter p (range_with_len (a + 1) n)) (filter p (range_with_len (a + 1) n)) lost)) rest
    ]

once_filter : (p : ℕ → Bool) (a n : ℕ) → IsDistinct nat_eq (filter p (range_with_len a n))
unfolding IsDistinct
once_filter p a zero = tt
once_filter p a (suc n) =
    let rest : IsDistinct nat_eq (filter p (range_with_len (a + 1) n)) = once_filter p (a + 1) n in
    elim (cases_Bool (p a)) [
      | inl kept ↦ subst (IsDistinct nat_eq) (sym (cond-true (p a) (a ∷ filter p (range_with_len (a + 1) n)) (filter p (range_with_len (a + 1) n)) kept)) (apart_filter p a (a + 1) n (omega arith), rest)
      | inr lost ↦ subst (IsDistinct nat_eq) (sym (cond-false (p a) (a ∷ filter p (range_with_len (a + 1) n)) (filter p (range_with_len (a + 1) n)) lost)) rest
    ]

pub once_rising : (ms : List ℕ) → IsDistinct nat_eq (rising ms)
unfolding all_numbers
once_rising ms = once_filter (is_on ms) 1 64

range_filter : (p : ℕ → Bool) (a n : ℕ) → 1 ≤ a → a + n ≤ (greatest_node_no + 1) → All (λ m. (1 ≤ m) × (m ≤ 64)) (filter p (range_with_len a n))
range_filter p a zero low high = All-nil (λ m. (1 ≤ m) × (m ≤ 64))
range_filter p a (suc n) low high =
    let rest : All (λ m. (1 ≤ m) × (m ≤ 64)) (filter p (range_with_len (a + 1) n)) = range_filter p (a + 1) n (omega arith) (omega arith) in
    elim (cases_Bool (p a)) [
      | inl kept ↦ subst (All (λ m. (1 ≤ m) × (m ≤ 64))) (sym (cond-true (p a) (a ∷ filter p (range_with_len (a + 1) n)) (filter p (range_with_len (a + 1) n)) kept))
          (All-cons (λ m. (1 ≤ m) × (m ≤ 64)) a (filter p (range_with_len (a + 1) n)) (low, omega arith) rest)
      | inr lost ↦ subst (All (λ m. (1 ≤ m) × (m ≤ 64))) (sym (cond-false (p a) (a ∷ filter p (range_with_len (a + 1) n)) (filter p (range_with_len (a + 1) n)) lost)) rest
    ]

pub range_rising : (ms : List ℕ) → All (λ m. (1 ≤ m) × (m ≤ 64)) (rising ms)
unfolding all_numbers
range_rising ms = range_filter (is_on ms) 1 64 (omega arith) (omega arith)

-- ---- as many

on_first : (a b : Bool) → a ≡ true → (a || b) ≡ true
on_first a b h = cc

on_later : (a b : Bool) → b ≡ true → (a || b) ≡ true
on_later true b h = refl
on_later false b h = h

itself : (x : ℕ) → (x == x) ≡ true
itself x = grind (arith, nat_tests)

one_and : (n : ℕ) → 1 + n ≡ suc n
one_and n = omega arith

-- what each on the list passes is counted for each
counted_all : (p : ℕ → Bool) (b : List ℕ) → ((m : ℕ) → is_on b m ≡ true → p m ≡ true) → count_by (λ m. true && p m) b ≡ length b
counted_all p [] h = refl
counted_all p (x ∷ xs) h =
    let first : p x ≡ true = h x (on_first (x == x) (is_on xs x) (itself x)) in
    count_by-cons (λ m. true && p m) x xs
    ∙ ap (λ (b : Bool). cond (true && b) 1 0 + count_by (λ m. true && p m) xs) first
    ∙ ap (λ (k : ℕ). 1 + k) (counted_all p xs (λ m on. h m (on_later (m == x) (is_on xs m) on)))
    ∙ one_and (length xs)

-- different members in range are as many by rising number
pub as_many : (ms : List ℕ) → All (λ m. (1 ≤ m) × (m ≤ 64)) ms → IsDistinct nat_eq ms → length (rising ms) ≡ length ms
as_many ms h once =
    let there : count_by (λ m. true && is_on (rising ms) m) ms ≡ length ms = counted_all (is_on (rising ms)) ms (λ m on. on_rising ms h m ∙ on) in
    let back : count_by (λ m. true && is_on ms m) (rising ms) ≡ length (rising ms) = counted_all (is_on ms) (rising ms) (λ m on. sym (on_rising ms h m) ∙ on) in
    omega (arith, there, back, count_shared (λ _. true) (rising ms) ms once, count_shared (λ _. true) ms (rising ms) (once_rising ms))
