-- Two counts over two lists share a member.
use Rattle.std.proofs.Common.{◌≡◌, ℕ, suc, ◌*◌, ◌+◌, ◌-◌, ◌<◌, ◌≤◌, Bool, true, false, cond, List, [], ◌∷◌, length, refl, arith, inl, inr}
use Rattle.std.specs.Prelude.{count_by, map, All, Any, ◌==◌, ◌&&◌, ◌||◌, nat_eq, ◌⊎◌}
use Rattle.std.specs.List.{IsDistinct, AllByRecursion}
use Rattle.std.proofs.lemmas.List.Sums.{sum_by-cons, count_by-le-length}
use Rattle.std.proofs.lemmas.Bool.{and_parts}
use Rattle.std.proofs.lemmas.Bool.Decides.{nat_tests}
use Rattle.std.proofs.lemmas.List.Elements.{All-head, All-tail}
use Rattle.xl_lists.specs.Lists.{TrustedList, is_on, IsValid}
use Rattle.xl_lists.specs.Quorums.{overlap, liars_shared, Enough, QuorumsMeet}

-- a count goes element by element
pub count_by-cons : {X : Type 0} (p : X → Bool) (x : X) (xs : List X) → count_by p (x ∷ xs) ≡ cond (p x) 1 0 + count_by p xs
count_by-cons p x xs = sum_by-cons (λ y. cond (p y) 1 0) x xs

-- at one element
both_or_more : (a b : Bool) (m n k : ℕ) → m + n ≤ k → (cond a 1 0 + m) + (cond b 1 0 + n) ≤ (cond (a && b) 1 0 + k) + 1
both_or_more a b m n k h = grind arith

-- of two tests, what passes both is at least what they pass together, less the length
pub count_both : (p q : ℕ → Bool) (xs : List ℕ) → count_by p xs + count_by q xs ≤ count_by (λ m. p m && q m) xs + length xs
count_both p q [] = omega arith
count_both p q (x ∷ xs) = rw (count_by-cons p x xs, count_by-cons q x xs, count_by-cons (λ m. p m && q m) x xs) (omega (arith, both_or_more (p x) (q x) _ _ _ (count_both p q xs)))

neither : (x y : Bool) → x ≡ false → y ≡ false → (x || y) ≡ false
neither x y e h = cc

-- a member apart from the rest is not on it
apart : (b : ℕ) (bs : List ℕ) → AllByRecursion (λ y. nat_eq b y ≡ false) bs → is_on bs b ≡ false
apart b [] h = refl
apart b (y ∷ ys) h = neither (b == y) (is_on ys b) h.0 (apart b ys h.1)

-- at one element x, which is b or on the list, but not both
one_more : (p : ℕ → Bool) (b : ℕ) (bs : List ℕ) → is_on bs b ≡ false → (x m n k : ℕ) → m + n ≤ k →
    (cond (p x && (x == b)) 1 0 + m) + (cond (p x && is_on bs x) 1 0 + n) ≤ cond (p x && ((x == b) || is_on bs x)) 1 0 + k
one_more p b bs off x m n k h = grind (arith, nat_tests)

-- a member more on the list
count_more : (p : ℕ → Bool) (b : ℕ) (bs : List ℕ) → is_on bs b ≡ false → (a : List ℕ) →
    count_by (λ m. p m && (m == b)) a + count_by (λ m. p m && is_on bs m) a ≤ count_by (λ m. p m && is_on (b ∷ bs) m) a
count_more p b bs off [] = omega arith
count_more p b bs off (x ∷ xs) =
    rw (count_by-cons (λ m. p m && (m == b)) x xs, count_by-cons (λ m. p m && is_on bs m) x xs, count_by-cons (λ m. p m && is_on (b ∷ bs) m) x xs)
    (one_more p b bs off x _ _ _ (count_more p b bs off xs))

-- at one element x, the member b itself or not
one_there : (p : ℕ → Bool) (b x : ℕ) (on : Bool) (n : ℕ) → cond (p b && on) 1 0 ≤ n →
    cond (p b && ((b == x) || on)) 1 0 ≤ cond (p x && (x == b)) 1 0 + n
one_there p b x on n h = grind (arith, nat_tests)

-- a member on the list is counted there
count_there : (p : ℕ → Bool) (b : ℕ) (a : List ℕ) → cond (p b && is_on a b) 1 0 ≤ count_by (λ m. p m && (m == b)) a
count_there p b [] = grind arith
count_there p b (x ∷ xs) = rw (count_by-cons (λ m. p m && (m == b)) x xs) (one_there p b x (is_on xs b) _ (count_there p b xs))

-- what two lists share is counted on either, where the one has each member once
pub count_shared : (p : ℕ → Bool) (a b : List ℕ) → IsDistinct nat_eq b →
    count_by (λ m. p m && is_on a m) b ≤ count_by (λ m. p m && is_on b m) a
unfolding IsDistinct
count_shared p a [] once = omega arith
count_shared p a (b ∷ bs) once =
    rw (count_by-cons (λ m. p m && is_on a m) b bs)
    (omega (arith, count_more p b bs (apart b bs once.0) a, count_there p b a, count_shared p a bs once.1))

-- a member of the list passes all three, and is no liar
pub record IsShared (p q o t : ℕ → Bool) (m : ℕ) : Type 0 where
  pub first : p m ≡ true
  pub second : q m ≡ true
  pub on : o m ≡ true
  pub honest : t m ≡ false

-- the element itself, or fewer are counted at it
pick : (p q o t : Bool) → (p ≡ true) × (q ≡ true) × (o ≡ true) × (t ≡ false) ⊎ (cond (p && o) 1 0 + cond (q && o) 1 0 ≤ cond o 1 0 + cond (o && t) 1 0)
pick true true true true = inr (omega arith)
pick true true true false = inl (refl, refl, refl, refl)
pick true true false t = inr (omega arith)
pick true false o t = grind arith
pick false q o t = grind arith

-- too many for each to be a liar or in one of both alone
pub shared : (p q o t : ℕ → Bool) (a : List ℕ) →
    count_by o a + count_by (λ m. o m && t m) a < count_by (λ m. p m && o m) a + count_by (λ m. q m && o m) a →
    (m : ℕ) × IsShared p q o t m
shared p q o t [] h = absurd (omega arith)
shared p q o t (x ∷ xs) h =
    let more : (cond (o x) 1 0 + count_by o xs) + (cond (o x && t x) 1 0 + count_by (λ m. o m && t m) xs)
    < (cond (p x && o x) 1 0 + count_by (λ m. p m && o m) xs) + (cond (q x && o x) 1 0 + count_by (λ m. q m && o m) xs)
    = rw (← count_by-cons o x xs, ← count_by-cons (λ m. o m && t m) x xs, ← count_by-cons (λ m. p m && o m) x xs, ← count_by-cons (λ m. q m && o m) x xs) h
    in elim (pick (p x) (q x) (o x) (t x)) [
      | inl found ↦ (x, record { first = found.0; second = found.1; on = found.2; honest = found.3 })
      | inr fewer ↦ shared p q o t xs (omega arith)
    ]

at_one : (a b : Bool) (m n : ℕ) → (a ≡ true → b ≡ true) → m ≤ n → cond a 1 0 + m ≤ cond b 1 0 + n
at_one true true m n h le = omega arith
at_one true false m n h le = let never = h refl in cc
at_one false true m n h le = omega arith
at_one false false m n h le = omega arith

-- what passes the one test at each place passes the other at the place's image
pub count_image : {X Y : Type 0} (p : X → Bool) (q : Y → Bool) (f : X → Y) (xs : List X) → All (λ x. p x ≡ true → q (f x) ≡ true) xs → count_by p xs ≤ count_by q (map f xs)
count_image p q f [] h = omega arith
count_image p q f (x ∷ xs) h =
    rw (count_by-cons p x xs, count_by-cons q (f x) (map f xs))
    (at_one (p x) (q (f x)) _ _ (All-head (λ y. p y ≡ true → q (f y) ≡ true) x xs h) (count_image p q f xs (All-tail (λ y. p y ≡ true → q (f y) ≡ true) x xs h)))

-- a weaker test passes more
pub count_weaker : (p q : ℕ → Bool) → ((m : ℕ) → p m ≡ true → q m ≡ true) → (ms : List ℕ) → count_by p ms ≤ count_by q ms
count_weaker p q h [] = omega arith
count_weaker p q h (m ∷ ms) = rw (count_by-cons p m ms, count_by-cons q m ms) (at_one (p m) (q m) _ _ (h m) (count_weaker p q h ms))

-- two quorums share a member that is no liar, if they exceed both sizes, minus the overlap, plus the liars in it
pub quorums_share : (p q t : ℕ → Bool) (a b : List ℕ) → IsDistinct nat_eq a → IsDistinct nat_eq b →
    length a + length b - count_by (is_on b) a + count_by (λ m. is_on b m && t m) a < count_by p a + count_by q b →
    (m : ℕ) × IsShared p q (is_on b) t m
quorums_share p q t a b a_once b_once enough =
    shared p q (is_on b) t a
    (omega (arith, count_both p (is_on b) a, count_both q (is_on a) b, count_shared q a b b_once, count_shared (λ _. true) b a a_once, count_by-le-length (is_on b) a))

-- the liars in an overlap are some of it
pub liars_within : (liars a b : List ℕ) → liars_shared liars a b ≤ overlap a b
liars_within liars a b = count_weaker (λ m. is_on b m && is_on liars m) (is_on b) (λ m both. (and_parts (is_on b m) (is_on liars m) both).0) a

both_or_at_most_one : (a b : Bool) → (a ≡ true) × (b ≡ true) ⊎ (cond a 1 0 + cond b 1 0 ≤ 1)
both_or_at_most_one true true = inl (refl, refl)
both_or_at_most_one true false = inr (omega arith)
both_or_at_most_one false true = inr (omega arith)
both_or_at_most_one false false = inr (omega arith)

-- where two tests of one list are passed more often, together, than it is long, some element passes both
pub both_pass : {X : Type 0} (p r : X → Bool) (xs : List X) → length xs < count_by p xs + count_by r xs → Any (λ x. (p x ≡ true) × (r x ≡ true)) xs
both_pass p r [] more = absurd (omega arith)
both_pass p r (x ∷ xs) more =
    let counted : length xs + 1 < (cond (p x) 1 0 + count_by p xs) + (cond (r x) 1 0 + count_by r xs)
    = rw (← count_by-cons p x xs, ← count_by-cons r x xs) (omega (arith, more))
    in elim (both_or_at_most_one (p x) (r x)) [
      | inl both ↦ (0, x, omega arith, refl, both)
      | inr one ↦ let later = both_pass p r xs (omega (arith, counted, one)) in (suc later.0, later.1, omega (arith, later.2), later.3, later.4)
    ]

-- so two quorums of one list share a member, being more than half of it
pub quorums_meet : {X : Type 0} (p r : X → Bool) (quorum : ℕ) (xs : List X) → length xs < 2 * quorum → quorum ≤ count_by p xs → quorum ≤ count_by r xs →
    Any (λ x. (p x ≡ true) × (r x ≡ true)) xs
quorums_meet p r quorum xs half by_p by_r = both_pass p r xs (omega (arith, half, by_p, by_r))

-- where two quorums of valid lists are enough, they meet
pub enough_meet : (liars : List ℕ) (a b : TrustedList) → IsValid a → IsValid b → Enough liars a b → QuorumsMeet liars a b
enough_meet liars a b valid_a valid_b enough p r by_p by_r =
    let found = quorums_share p r (is_on liars) a.members b.members valid_a.once valid_b.once (omega (arith, enough, by_p, by_r)) in
    (found.0, found.1.first, found.1.second, found.1.honest)
