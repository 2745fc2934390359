-- Why two nodes that declared one list have quorums that are enough, whoever is left out.
use Rattle.std.proofs.Common.{◌≡◌, ℕ, ◌+◌, ◌≤◌, Bool, true, false, cond, List, [], ◌∷◌, length, get_or, refl, arith}
use Rattle.std.specs.Prelude.{◌&&◌, nat_eq, count_by, All, IsTrue}
use Rattle.std.specs.List.{IsDistinct}
use Rattle.std.proofs.lemmas.Bool.{and_parts}
use Rattle.std.proofs.lemmas.List.Elements.{All-head, All-tail}
use Rattle.xl_lists.specs.Lists.{is_on}
use Rattle.xl_lists.specs.Quorums.{overlap, liars_shared}
use Rattle.xl_lists.proofs.Counting.{count_by-cons, count_both, count_shared, count_weaker}
use Rattle.xl_nunl.specs.Lists.{NegativeListsAreEnough}
use Rattle.xl_nunl.proofs.Staying.{count_all}

at_one : (a b : Bool) (m n : ℕ) → (a ≡ true → b ≡ true) → m ≤ n → cond a 1 0 + m ≤ cond b 1 0 + n
at_one true true m n h le = omega arith
at_one true false m n h le = let never = h refl in cc
at_one false true m n h le = omega arith
at_one false false m n h le = omega arith

-- a test that is weaker at each element passes more
among : (p q : ℕ → Bool) (xs : List ℕ) → All (λ m. p m ≡ true → q m ≡ true) xs → count_by p xs ≤ count_by q xs
among p q [] h = omega arith
among p q (x ∷ xs) h =
    rw (count_by-cons p x xs, count_by-cons q x xs)
    (at_one (p x) (q x) _ _ (All-head (λ m. p m ≡ true → q m ≡ true) x xs h) (among p q xs (All-tail (λ m. p m ≡ true → q m ≡ true) x xs h)))

-- the members of a part of the list are counted on the list
within : (full part : List ℕ) → IsDistinct nat_eq part → All (λ m. IsTrue (is_on full m)) part → length part ≤ count_by (is_on part) full
within full part once on =
    let counted : count_by (λ m. true && is_on full m) part ≤ count_by (λ m. true && is_on part m) full = count_shared (λ _. true) full part once in
    omega (arith, count_all (is_on full) part on)

both_true : (a b : Bool) → a ≡ true → b ≡ true → (a && b) ≡ true
both_true true b e f = f
both_true false b e f = absurd cc

pub enough : NegativeListsAreEnough
enough full liars a b once is_a is_b bound =
    let in_a : length a.members ≤ count_by (is_on a.members) full = within full a.members is_a.once is_a.on in
    let in_b : length b.members ≤ count_by (is_on b.members) full = within full b.members is_b.once is_b.on in
    let together : count_by (is_on b.members) full + count_by (is_on a.members) full ≤ count_by (λ m. is_on b.members m && is_on a.members m) full + length full =
    count_both (is_on b.members) (is_on a.members) full in
    let shared : count_by (λ m. is_on b.members m && is_on a.members m) full ≤ count_by (λ m. is_on b.members m && is_on full m) a.members = count_shared (is_on b.members) a.members full once in
    let overlapping : count_by (λ m. is_on b.members m && is_on full m) a.members ≤ overlap a.members b.members =
    count_weaker (λ m. is_on b.members m && is_on full m) (is_on b.members) (λ m both. (and_parts (is_on b.members m) (is_on full m) both).0) a.members in
    let liars_a : liars_shared liars a.members b.members ≤ count_by (λ m. is_on liars m && is_on full m) a.members =
    among (λ m. is_on b.members m && is_on liars m) (λ m. is_on liars m && is_on full m) a.members
    (λ k d lt both. swapped (get_or a.members k d) both (is_a.on k d lt)) in
    let liars_full : count_by (λ m. is_on liars m && is_on full m) a.members ≤ count_by (λ m. is_on liars m && is_on a.members m) full = count_shared (is_on liars) full a.members is_a.once in
    let all_liars : count_by (λ m. is_on liars m && is_on a.members m) full ≤ count_by (is_on liars) full =
    count_weaker (λ m. is_on liars m && is_on a.members m) (is_on liars) (λ m both. (and_parts (is_on liars m) (is_on a.members m) both).0) full in
    omega (arith, bound, is_a.quorum, is_b.quorum)
  where
    swapped : (m : ℕ) → (is_on b.members m && is_on liars m) ≡ true → is_on full m ≡ true → (is_on liars m && is_on full m) ≡ true
    swapped m both on = both_true (is_on liars m) (is_on full m) (and_parts (is_on b.members m) (is_on liars m) both).1 on
