-- Those that are left out, once one comes back and one more is left out.
use Rattle.std.proofs.Common.{◌≡◌, ℕ, ◌+◌, ◌≤◌, ◌/◌, Bool, true, false, cond, List, [], ◌∷◌, Option, Some, None, length, refl, sym, ap, subst, ◌∙◌, arith, inl, inr}
use Rattle.std.specs.Prelude.{◌==◌, ◌||◌, ◌&&◌, not, nat_eq, nat_lt, nat_le, filter, find, IsTrue, ◌⊎◌}
use Rattle.std.specs.List.{IsDistinct, AllByRecursion}
use Rattle.std.proofs.lemmas.Bool.{cases_Bool, eqb-true, eq-eqb, cond-true, cond-false, and_parts, or_left, or_right}
use Rattle.std.proofs.lemmas.Bool.Decides.{nat_tests}
use Rattle.std.proofs.lemmas.Cmp.{nat_eq_equiv}
use Rattle.std.proofs.lemmas.Map.Keys.{IsDistinct-push}
use Rattle.std.proofs.lemmas.List.{length-append}
use Rattle.std.proofs.lemmas.List.Elements.{All-nil, All-filter, All-push}
use Rattle.std.proofs.lemmas.List.Sums.{length-filter, count_by-le-length}
use Rattle.xl_lists.specs.Lists.{is_on}
use Rattle.xl_nunl.specs.Lists.{IsNegative}
use Rattle.xl_nunl.specs.Deciding.{score_at, is_worse, only_if, joining_member, candidates, without, with_one, negative_after}
use Rattle.xl_firsts.specs.Firsts.{first_by}
use Rattle.xl_firsts.proofs.Firsts.{either}

-- ---- who is left out

dropped : (m x left : ℕ) (on : Bool) → (x == left) ≡ true → (on && not (m == left)) ≡ ((m == x || on) && not (m == left))
dropped m x left on same = grind (arith, nat_tests)

kept : (m x left : ℕ) (on : Bool) → (x == left) ≡ false → (m == x || (on && not (m == left))) ≡ ((m == x || on) && not (m == left))
kept m x left on other = grind (arith, nat_tests)

pub on_without : (left m : ℕ) (negative : List ℕ) → is_on (without negative (Some left)) m ≡ (is_on negative m && not (m == left))
on_without left m [] = refl
on_without left m (x ∷ xs) =
    let rest : List ℕ = without xs (Some left) in
    elim (cases_Bool (x == left)) [
      | inl same ↦ ap (λ (b : Bool). is_on (cond (not b) (x ∷ rest) rest) m) same ∙ on_without left m xs ∙ dropped m x left (is_on xs m) same
      | inr other ↦ ap (λ (b : Bool). is_on (cond (not b) (x ∷ rest) rest) m) other ∙ ap (λ (b : Bool). m == x || b) (on_without left m xs) ∙ kept m x left (is_on xs m) other
    ]

-- ---- what a filter leaves

on_filter_head : (p : ℕ → Bool) (x : ℕ) (xs : List ℕ) (m : ℕ) → is_on (filter p (x ∷ xs)) m ≡ true → ((m == x || is_on xs m) ≡ true) × (p m ≡ true) ⊎ (is_on (filter p xs) m ≡ true)
on_filter_head p x xs m on =
    elim (cases_Bool (p x)) [
      | inl passes ↦
          let stands : (m == x || is_on (filter p xs) m) ≡ true = sym (ap (λ (b : Bool). is_on (cond b (x ∷ filter p xs) (filter p xs)) m) passes) ∙ on in
          elim (cases_Bool (m == x)) [
            | inl same ↦ inl (or_left (m == x) (is_on xs m) same, ap p (eqb-true m x same) ∙ passes)
            | inr other ↦ inr (either (m == x) (is_on (filter p xs) m) stands other)
          ]
      | inr fails ↦ inr (sym (ap (λ (b : Bool). is_on (cond b (x ∷ filter p xs) (filter p xs)) m) fails) ∙ on)
    ]

-- what stands among those that pass stands among all and passes
pub of_filter : (p : ℕ → Bool) (xs : List ℕ) (m : ℕ) → is_on (filter p xs) m ≡ true → (is_on xs m ≡ true) × (p m ≡ true)
of_filter p [] m on = absurd cc
of_filter p (x ∷ xs) m on =
    elim (on_filter_head p x xs m on) [
      | inl first ↦ first
      | inr later ↦ let there = of_filter p xs m later in (or_right (m == x) (is_on xs m) there.0, there.1)
    ]

all_filter : (p : ℕ → Bool) (P : ℕ → Type 0) (xs : List ℕ) → AllByRecursion P xs → AllByRecursion P (filter p xs)
all_filter p P [] all = tt
all_filter p P (x ∷ xs) all =
    elim (cases_Bool (p x)) [
      | inl passes ↦ subst (λ (b : Bool). AllByRecursion P (cond b (x ∷ filter p xs) (filter p xs))) (sym passes) (all.0, all_filter p P xs all.1)
      | inr fails ↦ subst (λ (b : Bool). AllByRecursion P (cond b (x ∷ filter p xs) (filter p xs))) (sym fails) (all_filter p P xs all.1)
    ]

pub distinct_filter : (p : ℕ → Bool) (xs : List ℕ) → IsDistinct nat_eq xs → IsDistinct nat_eq (filter p xs)
unfolding IsDistinct
distinct_filter p [] once = tt
distinct_filter p (x ∷ xs) once =
    elim (cases_Bool (p x)) [
      | inl passes ↦ subst (λ (b : Bool). IsDistinct nat_eq (cond b (x ∷ filter p xs) (filter p xs))) (sym passes)
          (all_filter p (λ y. nat_eq x y ≡ false) xs once.0, distinct_filter p xs once.1)
      | inr fails ↦ subst (λ (b : Bool). IsDistinct nat_eq (cond b (x ∷ filter p xs) (filter p xs))) (sym fails) (distinct_filter p xs once.1)
    ]

-- ---- what is found

found_head : (p : ℕ → Bool) (x : ℕ) (xs : List ℕ) (m : ℕ) → (find p xs ≡ Some m → is_on xs m ≡ true) → find p (x ∷ xs) ≡ Some m → (m == x || is_on xs m) ≡ true
found_head p x xs m later found =
    elim (cases_Bool (p x)) [
      | inl passes ↦ let same : Some x ≡ Some m = sym (cond-true (p x) (Some x) (find p xs) passes) ∙ found in or_left (m == x) (is_on xs m) (eq-eqb m x cc)
      | inr fails ↦ or_right (m == x) (is_on xs m) (later (sym (cond-false (p x) (Some x) (find p xs) fails) ∙ found))
    ]

-- what is found stands there
pub found_on : (p : ℕ → Bool) (xs : List ℕ) (m : ℕ) → find p xs ≡ Some m → is_on xs m ≡ true
found_on p [] m found = absurd cc
found_on p (x ∷ xs) m found = found_head p x xs m (λ h. found_on p xs m h) found

first_on : (before : ℕ → ℕ → Bool) (xs : List ℕ) (m : ℕ) → first_by before xs ≡ Some m → is_on xs m ≡ true
first_on before xs m found = found_on _ xs m found

-- and what passes was there, and passed
pub only_some : (test : ℕ → Bool) (o : Option ℕ) (m : ℕ) → only_if test o ≡ Some m → (o ≡ Some m) × (test m ≡ true)
only_some test None m e = absurd cc
only_some test (Some k) m e =
    elim (cases_Bool (test k)) [
      | inl passes ↦ let same : Some k ≡ Some m = sym (cond-true (test k) (Some k) None passes) ∙ e in (same, ap test (sym (some_is k m same)) ∙ passes)
      | inr fails ↦ let none : None ≡ Some m = sym (cond-false (test k) (Some k) None fails) ∙ e in absurd cc
    ]
  where
    some_is : (a b : ℕ) → Some a ≡ Some b → a ≡ b
    some_is a b e = cc

-- ---- what is left out stays so

pub without_stays : (full negative : List ℕ) (left : Option ℕ) → IsNegative full negative → IsNegative full (without negative left)
without_stays full negative None is = is
without_stays full negative (Some left) is = record {
  once = distinct_filter (λ m. not (m == left)) negative is.once;
  on = All-filter (λ m. not (m == left)) (λ m. IsTrue (is_on full m)) negative is.on;
  quarter = omega (arith, length-filter (λ m. not (m == left)) negative, count_by-le-length (λ m. not (m == left)) negative, is.quarter);
}

not_true : (b : Bool) → not b ≡ true → b ≡ false
not_true true e = absurd cc
not_true false e = refl

le_of : (a b : ℕ) → nat_le a b ≡ true → a ≤ b
le_of a b e = grind (arith, nat_tests)

one_more : (full negative scores : List ℕ) (me : ℕ) (joined : Option ℕ) → joining_member full negative scores me ≡ joined → IsNegative full negative → IsNegative full (with_one negative joined)
one_more full negative scores me None e is = is
one_more full negative scores me (Some m) e is =
    let found = only_some (λ k. nat_lt (score_at scores k) 128 && nat_le (length negative + 1) (length full / 4)) (first_by (is_worse scores) (candidates full negative me)) m e in
    let among = of_filter (λ k. not (is_on negative k) && not (k == me)) full m (first_on (is_worse scores) (candidates full negative me) m found.0) in
    let off : is_on negative m ≡ false = not_true (is_on negative m) (and_parts (not (is_on negative m)) (not (m == me)) among.1).0 in
    let room : length negative + 1 ≤ length full / 4 = le_of (length negative + 1) (length full / 4) (and_parts (nat_lt (score_at scores m) 128) (nat_le (length negative + 1) (length full / 4)) found.1).1 in
    record {
      once = IsDistinct-push nat_eq_equiv negative m is.once off;
      on = All-push (λ k. IsTrue (is_on full k)) negative m is.on among.0;
      quarter = omega (arith, length-append negative (m ∷ []), room);
    }

pub negative_stays : (full negative scores : List ℕ) (me : ℕ) (left : Option ℕ) → IsNegative full negative →
    IsNegative full (negative_after negative left (joining_member full (without negative left) scores me))
negative_stays full negative scores me left is = one_more full (without negative left) scores me (joining_member full (without negative left) scores me) refl (without_stays full negative left is)

-- nobody may be left out
pub none_out : (full : List ℕ) → IsNegative full []
unfolding IsDistinct
none_out full = record { once = tt; on = All-nil (λ m. IsTrue (is_on full m)); quarter = omega arith }
