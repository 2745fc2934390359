-- The set bits are as many as the marked members.
use Rattle.std.proofs.Common.{◌≡◌, ℕ, zero, suc, ◌+◌, ◌-◌, ◌%◌, ◌^◌, ◌<◌, ◌≤◌, Bool, true, false, cond, List, [], ◌∷◌, length, refl, sym, ap, ◌∙◌, inl, inr, arith}
use Rattle.std.specs.Prelude.{filter, count_by, count_ones, bit_and, min, ◌==◌, ◌&&◌, not}
use Rattle.std.specs.List.{range_with_len}
use Rattle.std.specs.Int.{bit_at}
use Rattle.std.proofs.lemmas.Bool.{cases_Bool, cond-true, cond-false}
use Rattle.std.proofs.lemmas.Bool.Decides.{nat_tests}
use Rattle.std.proofs.lemmas.Nat.{mod-pow-add, ones_cat, mod_below, pow_pos, ones_le_self}
use Rattle.std.proofs.lemmas.Simd.{ones-mask_l_cons}
use Rattle.std.proofs.Math.Nat.{mod-eq_of_lt}
use Rattle.std.proofs.lemmas.Nat.Bits.{bit_at-lt, bit_at_and}
use Rattle.std.proofs.lemmas.List.Sums.{length-filter, sum_by-append}
use Rattle.xl_lists.specs.Lists.{is_on, all_numbers, rising}
use Rattle.xl_lists.specs.Marks.{is_marked, marked, AreMarked}
use Rattle.xl_lists.specs.Quorums.{overlap, liars_shared}
use Rattle.xl_lists.proofs.Counting.{count_by-cons}
use Rattle.xl_lists.proofs.Rising.{range_more, filter_alike}

no_bits : count_ones 0 ≡ 0
no_bits = omega (arith, ones_le_self 0)

one_bit : (b : ℕ) → b < 2 → count_ones b ≡ cond (b == 1) 1 0
one_bit zero h = no_bits
one_bit (suc zero) h = ones-mask_l_cons true [] ∙ ap (λ (x : ℕ). 1 + x) no_bits
one_bit (suc (suc n)) h = absurd (omega (arith, h))

some_bit : (m b : ℕ) → 1 ≤ m → (not (m == 0) && (b == 1)) ≡ (b == 1)
some_bit m b low = grind (arith, nat_tests)

plus_none : (n : ℕ) → 0 + n ≡ n
plus_none n = omega arith

-- of the k lowest bits
ones_low : (n k : ℕ) → count_ones (n % 2 ^ k) ≡ count_by (is_marked n) (range_with_len 1 k)
ones_low n zero = let none : n % 2 ^ 0 ≡ 0 = omega arith in ap count_ones none ∙ no_bits
ones_low n (suc k) =
    let p : ℕ → Bool = is_marked n in
    let more : suc k ≡ 1 + k = omega arith in
    let last : p (1 + k) ≡ (bit_at n k == 1) = at_last n k in
    ap (λ (j : ℕ). count_ones (n % 2 ^ j)) more
    ∙ ap count_ones (mod-pow-add n 1 k)
    ∙ ones_cat k (bit_at n k) (n % 2 ^ k) (mod_below n (2 ^ k) (pow_pos k))
    ∙ ap (λ (x : ℕ). x + count_ones (n % 2 ^ k)) (one_bit (bit_at n k) (bit_at-lt n k))
    ∙ ap (λ (b : Bool). cond b 1 0 + count_ones (n % 2 ^ k)) (sym last)
    ∙ ap (λ (x : ℕ). cond (p (1 + k)) 1 0 + x) (ones_low n k)
    ∙ turned (cond (p (1 + k)) 1 0) (count_by p (range_with_len 1 k))
    ∙ ap (λ (x : ℕ). count_by p (range_with_len 1 k) + x) (sym (count_by-cons p (1 + k) []))
    ∙ sym (sum_by-append (λ (m : ℕ). cond (p m) 1 0) (range_with_len 1 k) ((1 + k) ∷ []))
    ∙ ap (count_by p) (sym (range_more 1 k))
  where
    at_last : (n k : ℕ) → is_marked n (1 + k) ≡ (bit_at n k == 1)
    at_last n k = let low : 1 + k - 1 ≡ k = omega arith in some_bit (1 + k) (bit_at n (1 + k - 1)) (omega arith) ∙ ap (λ (i : ℕ). bit_at n i == 1) low

    turned : (a b : ℕ) → a + b ≡ b + (a + 0)
    turned a b = omega arith

pub ones_marked : (bits : ℕ) → bits < 2 ^ 64 → count_ones bits ≡ length (marked bits)
unfolding all_numbers
ones_marked bits within =
    ap count_ones (sym (mod-eq_of_lt within)) ∙ ones_low bits 64 ∙ sym (length-filter (is_marked bits) (range_with_len 1 64))

both_bits : (m i j : ℕ) → i < 2 → j < 2 → (not (m == 0) && (min i j == 1)) ≡ ((not (m == 0) && (i == 1)) && (not (m == 0) && (j == 1)))
both_bits m i j x y = grind (arith, nat_tests)

pub marked_both : (a b m : ℕ) → is_marked (bit_and a b) m ≡ (is_marked a m && is_marked b m)
marked_both a b m =
    ap (λ (k : ℕ). not (m == 0) && (k == 1)) (bit_at_and a b (m - 1))
    ∙ both_bits m (bit_at a (m - 1)) (bit_at b (m - 1)) (bit_at-lt a (m - 1)) (bit_at-lt b (m - 1))

-- ---- what passes two tests

counted_twice : (p q : ℕ → Bool) (xs : List ℕ) → count_by (λ m. p m && q m) xs ≡ count_by q (filter p xs)
counted_twice p q [] = refl
counted_twice p q (x ∷ xs) =
    count_by-cons (λ m. p m && q m) x xs
    ∙ ap (λ (k : ℕ). cond (p x && q x) 1 0 + k) (counted_twice p q xs)
    ∙ elim (cases_Bool (p x)) [
      | inl kept ↦ ap (λ (b : Bool). cond (b && q x) 1 0 + count_by q (filter p xs)) kept
          ∙ sym (count_by-cons q x (filter p xs))
          ∙ ap (count_by q) (sym (cond-true (p x) (x ∷ filter p xs) (filter p xs) kept))
      | inr lost ↦ ap (λ (b : Bool). cond (b && q x) 1 0 + count_by q (filter p xs)) lost
          ∙ plus_none (count_by q (filter p xs))
          ∙ ap (count_by q) (sym (cond-false (p x) (x ∷ filter p xs) (filter p xs) lost))
    ]

-- the marked count_ones are those on a list that pass a test
pub marked_are : (bits : ℕ) (q : ℕ → Bool) (a : List ℕ) → rising a ≡ a → ((m : ℕ) → is_marked bits m ≡ (is_on a m && q m)) →
    length (marked bits) ≡ count_by q a
marked_are bits q a rises alike =
    length-filter (is_marked bits) all_numbers
    ∙ sym (length-filter (is_marked bits) all_numbers)
    ∙ ap length (filter_alike (is_marked bits) (λ m. is_on a m && q m) alike all_numbers)
    ∙ length-filter (λ m. is_on a m && q m) all_numbers
    ∙ counted_twice (is_on a) q all_numbers
    ∙ ap (count_by q) rises

-- those of both lists, counted on the one
pub overlap_marked : (one other both : ℕ) (a b : List ℕ) → rising a ≡ a → AreMarked one a → AreMarked other b →
    ((m : ℕ) → is_marked both m ≡ (is_marked one m && is_marked other m)) → length (marked both) ≡ overlap a b
overlap_marked one other both a b rises on_a on_b shared =
    marked_are both (is_on b) a rises (λ m. shared m ∙ ap (λ (x : Bool). x && is_marked other m) (on_a m) ∙ ap (λ (x : Bool). is_on a m && x) (on_b m))

and_later : (x y z : Bool) → ((x && y) && z) ≡ (x && (y && z))
and_later true y z = refl
and_later false y z = refl

-- and the liars among them
pub liars_marked : (one other lying both all : ℕ) (a b liars : List ℕ) → rising a ≡ a → AreMarked one a → AreMarked other b → AreMarked lying liars →
    ((m : ℕ) → is_marked both m ≡ (is_marked one m && is_marked other m)) → ((m : ℕ) → is_marked all m ≡ (is_marked both m && is_marked lying m)) →
    length (marked all) ≡ liars_shared liars a b
liars_marked one other lying both all a b liars rises on_a on_b on_liars shared lied =
    marked_are all (λ m. is_on b m && is_on liars m) a rises
    (λ m. lied m ∙ ap (λ (x : Bool). x && is_marked lying m) (shared m ∙ ap (λ (x : Bool). x && is_marked other m) (on_a m) ∙ ap (λ (x : Bool). is_on a m && x) (on_b m))
    ∙ ap (λ (x : Bool). (is_on a m && is_on b m) && x) (on_liars m) ∙ and_later (is_on a m) (is_on b m) (is_on liars m))
