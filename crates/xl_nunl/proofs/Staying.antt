-- The members that stay, by rising number: they are a list.
use Rattle.std.proofs.Common.{◌≡◌, ℕ, zero, suc, ◌+◌, ◌*◌, ◌/◌, ◌<◌, ◌≤◌, Bool, true, false, cond, List, [], ◌∷◌, ◌++◌, Option, Some, None, Ok, length, refl, ap, subst, ◌∙◌, arith, inl, inr}
use Rattle.std.specs.Prelude.{◌==◌, ◌||◌, ◌&&◌, not, nat_eq, nat_lt, max, filter, find, count_by, option_map, All, IsTrue}
use Rattle.std.specs.List.{IsDistinct, AllByRecursion, range_with_len}
use Rattle.std.proofs.lemmas.Bool.{and_parts, or_left, or_right, cond-true, cond-false, cases_eq, cases_Bool}
use Rattle.std.proofs.lemmas.Bool.Decides.{nat_tests}
use Rattle.std.proofs.lemmas.List.{append-nil}
use Rattle.std.proofs.lemmas.List.Elements.{filter-append, All-nil, All-cons, All-head, All-tail}
use Rattle.std.proofs.lemmas.List.Folds.{list_any-append}
use Rattle.std.proofs.lemmas.List.Sums.{length-filter, count_by-le-length}
use Rattle.xl_base.specs.Refusals.{unless_refused}
use Rattle.xl_lists.specs.Lists.{TrustedList, is_on, is_outside, repeated_after, rising, all_numbers, is_quorum, list_of, IsValid}
use Rattle.xl_lists.specs.declared.refusal.ListRefusal.{ListRefusal}
use Rattle.xl_lists.specs.declared.refusal.ListRefusal.TheVariants.{TooMany, Quorum}
use Rattle.xl_lists.proofs.Counting.{count_by-cons, count_shared}
use Rattle.xl_lists.proofs.Rereading.{no_cause, none_repeated}
use Rattle.xl_nunl.specs.Lists.{IsNegative, least_quorum, staying_up_to, staying_members, list_without, MayBeInForce}
use Rattle.xl_nunl.proofs.Negative.{distinct_filter, of_filter}

-- ---- the numbers from one on

on_range : (a n m : ℕ) → a ≤ m → m < a + n → is_on (range_with_len a n) m ≡ true
on_range a zero m low high = absurd (omega arith)
on_range a (suc n) m low high =
    elim (cases_eq m a) [
      | inl same ↦ or_left (m == a) (is_on (range_with_len (a + 1) n) m) (grind (arith, nat_tests))
      | inr other ↦ or_right (m == a) (is_on (range_with_len (a + 1) n) m) (on_range (a + 1) n m (omega arith) (omega arith))
    ]

off_range : (k a n : ℕ) → k < a → AllByRecursion (λ y. nat_eq k y ≡ false) (range_with_len a n)
off_range k a zero lt = tt
off_range k a (suc n) lt = (grind (arith, nat_tests), off_range k (a + 1) n (omega arith))

distinct_range : (a n : ℕ) → IsDistinct nat_eq (range_with_len a n)
unfolding IsDistinct
distinct_range a zero = tt
distinct_range a (suc n) = (off_range a (a + 1) n (omega arith), distinct_range (a + 1) n)

in_range : (a n m : ℕ) → is_on (range_with_len a n) m ≡ true → (a ≤ m) × (m < a + n)
in_range a zero m on = absurd cc
in_range a (suc n) m on =
    elim (cases_eq m a) [
      | inl same ↦ (omega arith, omega arith)
      | inr other ↦ let there = in_range (a + 1) n m (later (m == a) (is_on (range_with_len (a + 1) n) m) (grind (arith, nat_tests)) on) in (omega (arith, there.0), omega (arith, there.1))
    ]
  where
    later : (b c : Bool) → b ≡ false → (b || c) ≡ true → c ≡ true
    later true c e h = absurd cc
    later false c e h = h

range_more : (a n : ℕ) → range_with_len a (n + 1) ≡ range_with_len a n ++ (a + n) ∷ []
range_more a zero = ap (λ (k : ℕ). k ∷ []) (omega arith)
range_more a (suc n) =
    let next : suc n + 1 ≡ suc (n + 1) = omega arith in
    let last : a + 1 + n ≡ a + suc n = omega arith in
    ap (range_with_len a) next ∙ ap (λ (xs : List ℕ). a ∷ xs) (range_more (a + 1) n) ∙ ap (λ (k : ℕ). a ∷ (range_with_len (a + 1) n ++ k ∷ [])) last

-- ---- one number after the other

pub none_yet : (full negative : List ℕ) → staying_up_to full negative 0 ≡ []
unfolding staying_up_to
none_yet full negative = refl

pub all_of_them : (full negative : List ℕ) → staying_up_to full negative 64 ≡ staying_members full negative
unfolding staying_members
all_of_them full negative = refl

one_more : (full negative : List ℕ) (n : ℕ) (b : Bool) → (is_on full (n + 1) && not (is_on negative (n + 1))) ≡ b →
    staying_up_to full negative (n + 1) ≡ staying_up_to full negative n ++ cond b ((n + 1) ∷ []) []
unfolding staying_up_to
one_more full negative n b test =
    let p : ℕ → Bool = λ m. is_on full m && not (is_on negative m) in
    ap (filter p) (range_more 1 n) ∙ filter-append p (range_with_len 1 n) ((1 + n) ∷ [])
    ∙ ap (λ (k : ℕ). filter p (range_with_len 1 n) ++ filter p (k ∷ [])) (omega arith)
    ∙ ap (λ (c : Bool). filter p (range_with_len 1 n) ++ cond c ((n + 1) ∷ []) []) test

pub one_stays : (full negative : List ℕ) (n : ℕ) → (is_on full (n + 1) && not (is_on negative (n + 1))) ≡ true →
    staying_up_to full negative (n + 1) ≡ staying_up_to full negative n ++ (n + 1) ∷ []
one_stays full negative n test = one_more full negative n true test

pub one_goes : (full negative : List ℕ) (n : ℕ) → (is_on full (n + 1) && not (is_on negative (n + 1))) ≡ false →
    staying_up_to full negative (n + 1) ≡ staying_up_to full negative n
one_goes full negative n test = one_more full negative n false test ∙ append-nil (staying_up_to full negative n)

-- ---- what they are

distinct_up_to : (full negative : List ℕ) (n : ℕ) → IsDistinct nat_eq (staying_up_to full negative n)
unfolding staying_up_to
distinct_up_to full negative n = distinct_filter (λ m. is_on full m && not (is_on negative m)) (range_with_len 1 n) (distinct_range 1 n)

of_up_to : (full negative : List ℕ) (n m : ℕ) → is_on (staying_up_to full negative n) m ≡ true → (1 ≤ m) × (m ≤ n) × (is_on full m ≡ true)
unfolding staying_up_to
of_up_to full negative n m on =
    let parts = of_filter (λ k. is_on full k && not (is_on negative k)) (range_with_len 1 n) m on in
    let numbers = in_range 1 n m parts.0 in
    (numbers.0, omega (arith, numbers.1), (and_parts (is_on full m) (not (is_on negative m)) parts.1).0)

-- each of a list is what stands on it
each_on : (P : ℕ → Type 0) (xs : List ℕ) → ((m : ℕ) → is_on xs m ≡ true → P m) → All P xs
each_on P [] h = All-nil P
each_on P (x ∷ xs) h = All-cons P x xs (h x (or_left (x == x) (is_on xs x) (grind (arith, nat_tests)))) (each_on P xs (λ m on. h m (or_right (m == x) (is_on xs m) on)))

-- ---- how many they are

pub count_all : (p : ℕ → Bool) (xs : List ℕ) → All (λ m. p m ≡ true) xs → count_by p xs ≡ length xs
count_all p [] all = refl
count_all p (x ∷ xs) all =
    count_by-cons p x xs ∙ ap (λ (b : Bool). cond b 1 0 + count_by p xs) (All-head (λ m. p m ≡ true) x xs all)
    ∙ omega (arith, count_all p xs (All-tail (λ m. p m ≡ true) x xs all))

at_one : (a b : Bool) (m n k : ℕ) → m ≤ n + k → cond a 1 0 + m ≤ (cond (a && not b) 1 0 + n) + (cond b 1 0 + k)
at_one a b m n k h = grind arith

split : (p q : ℕ → Bool) (xs : List ℕ) → count_by p xs ≤ count_by (λ m. p m && not (q m)) xs + count_by q xs
split p q [] = omega arith
split p q (x ∷ xs) = rw (count_by-cons p x xs, count_by-cons (λ m. p m && not (q m)) x xs, count_by-cons q x xs) (at_one (p x) (q x) _ _ _ (split p q xs))

length_up_to : (full negative : List ℕ) (n : ℕ) → IsDistinct nat_eq full → All (λ m. (1 ≤ m) × (m ≤ n)) full →
    (length full ≤ length (staying_up_to full negative n) + length negative) × (length (staying_up_to full negative n) ≤ length full)
unfolding staying_up_to
length_up_to full negative n once numbers =
    let range : List ℕ = range_with_len 1 n in
    let p : ℕ → Bool = λ m. is_on full m && not (is_on negative m) in
    let all : count_by (is_on range) full ≡ length full = count_all (is_on range) full (λ k d within. let parts = numbers k d within in on_range 1 n _ parts.0 (omega (arith, parts.1))) in
    let here : count_by (λ m. true && is_on range m) full ≤ count_by (λ m. true && is_on full m) range = count_shared (λ _. true) range full once in
    let there : count_by (λ m. true && is_on negative m) range ≤ count_by (λ m. true && is_on range m) negative = count_shared (λ _. true) negative range (distinct_range 1 n) in
    let back : count_by (λ m. true && is_on full m) range ≤ count_by (λ m. true && is_on range m) full = count_shared (λ _. true) full range (distinct_range 1 n) in
    let parts : count_by (is_on full) range ≤ count_by p range + count_by (is_on negative) range = split (is_on full) (is_on negative) range in
    let fewer : count_by p range ≤ count_by (is_on full) range = weaker range in
    (omega (arith, length-filter p range, count_by-le-length (is_on range) negative), omega (arith, length-filter p range))
  where
    one : (a b : Bool) (m n : ℕ) → m ≤ n → cond (a && b) 1 0 + m ≤ cond a 1 0 + n
    one true true m n h = omega arith
    one true false m n h = omega arith
    one false b m n h = omega arith

    weaker : (xs : List ℕ) → count_by (λ m. is_on full m && not (is_on negative m)) xs ≤ count_by (is_on full) xs
    weaker [] = omega arith
    weaker (x ∷ xs) = rw (count_by-cons (λ m. is_on full m && not (is_on negative m)) x xs, count_by-cons (is_on full) x xs) (one (is_on full x) (not (is_on negative x)) _ _ (weaker xs))

-- ---- they rise

same_here : (b c : Bool) (d : Bool) → b ≡ true → (c || (b && d)) ≡ (b && (c || d))
same_here true c d e = refl
same_here false c d e = cc

same_there : (b c d : Bool) → c ≡ false → (c || (b && d)) ≡ (b && (c || d))
same_there b true d e = cc
same_there b false d e = refl

not_here : (b c d : Bool) → (c ≡ true → b ≡ false) → (b && d) ≡ (b && (c || d))
not_here true true d e = let never = e refl in cc
not_here true false d e = refl
not_here false c d e = refl

equal : (m x : ℕ) → (m == x) ≡ true → m ≡ x
equal m x is = grind (arith, nat_tests)

-- who is on what passes
on_passed : (p : ℕ → Bool) (xs : List ℕ) (m : ℕ) → is_on (filter p xs) m ≡ (p m && is_on xs m)
on_passed p [] m = none (p m)
  where
    none : (b : Bool) → false ≡ (b && false)
    none true = refl
    none false = refl
on_passed p (x ∷ xs) m =
    let rest : is_on (filter p xs) m ≡ (p m && is_on xs m) = on_passed p xs m in
    elim (cases_Bool (p x)) [
      | inl kept ↦ ap (λ (ys : List ℕ). is_on ys m) (cond-true (p x) (x ∷ filter p xs) (filter p xs) kept) ∙ ap (λ (b : Bool). (m == x) || b) rest
          ∙ elim (cases_Bool (m == x)) [
            | inl same ↦ same_here (p m) (m == x) (is_on xs m) (ap p (equal m x same) ∙ kept)
            | inr other ↦ same_there (p m) (m == x) (is_on xs m) other
          ]
      | inr lost ↦ ap (λ (ys : List ℕ). is_on ys m) (cond-false (p x) (x ∷ filter p xs) (filter p xs) lost) ∙ rest
          ∙ not_here (p m) (m == x) (is_on xs m) (λ same. ap p (equal m x same) ∙ lost)
    ]

-- the same passes by the test whether it passed
passed_again : (p : ℕ → Bool) (xs ys : List ℕ) → ((m : ℕ) → is_on ys m ≡ true → is_on xs m ≡ true) → filter (is_on (filter p xs)) ys ≡ filter p ys
passed_again p xs [] within = refl
passed_again p xs (y ∷ ys) within =
    let there : is_on xs y ≡ true = within y (or_left (y == y) (is_on ys y) (grind (arith, nat_tests))) in
    let here : is_on (filter p xs) y ≡ p y = on_passed p xs y ∙ alone (p y) (is_on xs y) there in
    let zs : List ℕ = filter (is_on (filter p xs)) ys in
    ap (λ (b : Bool). cond b (y ∷ zs) zs) here
    ∙ ap (λ (ws : List ℕ). cond (p y) (y ∷ ws) ws) (passed_again p xs ys (λ m on. within m (or_right (m == y) (is_on ys m) on)))
  where
    alone : (b c : Bool) → c ≡ true → (b && c) ≡ b
    alone true c e = e
    alone false c e = refl

risen : (full negative : List ℕ) → rising (staying_members full negative) ≡ staying_members full negative
unfolding all_numbers staying_members staying_up_to
risen full negative = passed_again (λ m. is_on full m && not (is_on negative m)) (range_with_len 1 64) (range_with_len 1 64) (λ m on. on)

-- ---- nothing of them is refused

none_outside : (xs : List ℕ) → ((m : ℕ) → is_on xs m ≡ true → is_outside m ≡ false) → find is_outside xs ≡ None
none_outside [] h = refl
none_outside (x ∷ xs) h =
    cond-false (is_outside x) (Some x) (find is_outside xs) (h x (or_left (x == x) (is_on xs x) (grind (arith, nat_tests))))
    ∙ none_outside xs (λ m on. h m (or_right (m == x) (is_on xs m) on))

-- members of which nothing is refused are a list, by rising number
is_list : (members : List ℕ) (quorum : ℕ) → 1 ≤ length members → length members ≤ 64 → find is_outside members ≡ None → repeated_after [] members ≡ None →
    quorum ≤ length members → length members < 2 * quorum → list_of members quorum ≡ Ok (record { members = rising members; quorum = quorum })
is_list members quorum some most inside once within majority =
    ap (λ (o : Option ListRefusal). unless_refused o (record { members = rising members; quorum = quorum }))
    (no_cause (length members == 0) (nat_lt 64 (length members)) (not (is_quorum quorum (length members))) (find is_outside members) (repeated_after [] members)
    (TooMany (length members)) (Quorum quorum (length members)) (grind (arith, nat_tests)) (grind (arith, nat_tests)) inside once
    (good (length members) quorum within majority))
  where
    good : (n q : ℕ) → q ≤ n → n < 2 * q → not (is_quorum q n) ≡ false
    good n q h k = grind (arith, nat_tests)

outside_not : (m : ℕ) → 1 ≤ m → m ≤ 64 → is_outside m ≡ false
outside_not m low high = grind (arith, nat_tests)

quorum_fits : (n k out : ℕ) → 1 ≤ n → out ≤ n / 4 → n ≤ k + out → k ≤ n → (max ((4 * k + 4) / 5) (least_quorum n) ≤ k) × (k < 2 * max ((4 * k + 4) / 5) (least_quorum n)) × (1 ≤ k)
quorum_fits n k out some quarter fewer at_most = (omega arith, omega arith, omega arith)

module _ (full : TrustedList) (negative : List ℕ) (valid : IsValid full) (is : IsNegative full.members negative) where
  sizes : (length full.members ≤ length (staying_members full.members negative) + length negative) × (length (staying_members full.members negative) ≤ length full.members)
  sizes = rw (← all_of_them full.members negative) (length_up_to full.members negative 64 valid.once valid.numbers)

  once : IsDistinct nat_eq (staying_members full.members negative)
  once = subst (IsDistinct nat_eq) (all_of_them full.members negative) (distinct_up_to full.members negative 64)

  each : (m : ℕ) → is_on (staying_members full.members negative) m ≡ true → (1 ≤ m) × (m ≤ 64) × (is_on full.members m ≡ true)
  each m on = of_up_to full.members negative 64 m (ap (λ (xs : List ℕ). is_on xs m) (all_of_them full.members negative) ∙ on)

  -- the members that stay are a list, with the quorum that is theirs
  pub stays_list : (members : List ℕ) (quorum : ℕ) → members ≡ staying_members full.members negative → quorum ≡ max ((4 * length members + 4) / 5) (least_quorum (length full.members)) →
      list_of members quorum ≡ Ok (list_without full.members negative)
  stays_list members quorum same four =
      let k : ℕ = length (staying_members full.members negative) in
      let q : ℕ = max ((4 * k + 4) / 5) (least_quorum (length full.members)) in
      let fits = quorum_fits (length full.members) k (length negative) valid.some is.quarter sizes.0 sizes.1 in
      ap (λ (n : ℕ). list_of members n) (four ∙ ap (λ (xs : List ℕ). max ((4 * length xs + 4) / 5) (least_quorum (length full.members))) same)
      ∙ ap (λ (xs : List ℕ). list_of xs q) same
      ∙ is_list (staying_members full.members negative) q fits.2 (omega (arith, sizes.1, valid.at_most))
      (none_outside (staying_members full.members negative) (λ m on. let numbers = each m on in outside_not m numbers.0 numbers.1))
      (none_repeated [] (staying_members full.members negative) (λ m on. refl) once) fits.0 fits.1
      ∙ ap (λ (xs : List ℕ). Ok (record { members = xs; quorum = q })) (risen full.members negative)

  pub stays_lawful : MayBeInForce full.members (list_without full.members negative)
  stays_lawful = record {
    once = once;
    on = each_on (λ m. IsTrue (is_on full.members m)) (staying_members full.members negative) (λ m on. (each m on).2);
    quorum = omega arith;
  }
