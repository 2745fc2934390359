-- Numbers of several bytes, the first of which is the highest, are ordered as the lists of their bytes are.
use Rattle.std.proofs.Common.{◌≡◌, ℕ, zero, suc, ◌+◌, ◌*◌, ◌^◌, ◌<◌, ◌≤◌, List, [], ◌∷◌, length, get_or, drop, Some, refl, sym, ap, ◌∙◌, arith}
use Rattle.std.proofs.lemmas.Bool.Decides.{nat_tests}
use Rattle.std.proofs.Math.Nat.{add-mul, mul-le-mul_right}
use Rattle.std.proofs.lemmas.Cmp.{ranked}
use Rattle.std.proofs.lemmas.List.{drop-drop, drop_all, get_or-drop, length-drop}
use Rattle.std.specs.Ordering.{nat_cmp, ordering_then, is_eq}
use Rattle.std.specs.declared.cmp.Ordering.{Ordering}
use Rattle.std.specs.declared.cmp.Ordering.TheVariants.{Less, Equal, Greater}
use Rattle.std.specs.Cmp.Lexicographic.{slice_cmp, slice_partial_cmp, lists_agrees, texts_ties}
use Rattle.std.specs.Str.{bytes_eq}
use Rattle.byteorder.specs.Endian.{big_number}
use Rattle.byteorder.specs.Numbers.{big_from-cons, big_from-lt}
use Rattle.xl_base.specs.Ids.{words_of}

abbrev pub IsBytes : List ℕ → Type 0
IsBytes bytes = (i : ℕ) → get_or bytes i 0 < 256

less : (a b : ℕ) → a < b → nat_cmp a b ≡ Less
less a b below = grind (arith, nat_tests)

greater : (a b : ℕ) → b < a → nat_cmp a b ≡ Greater
greater a b above = grind (arith, nat_tests)

same_front : (k v w : ℕ) → nat_cmp (k + v) (k + w) ≡ nat_cmp v w
same_front k v w = grind (arith, nat_tests)

-- the lower place is below one of the higher place
carried : (p x y v w : ℕ) → v < p → x < y → x * p + v < y * p + w
carried p x y v w low below =
    let top : (x + 1) * p ≤ y * p = mul-le-mul_right p (omega arith) in
    omega (arith, top, add-mul x 1 p)

-- of two numbers of two places the higher place decides, and then the lower
decided : (p x y v w : ℕ) (order : Ordering) → order ≡ nat_cmp x y → v < p → w < p → nat_cmp (x * p + v) (y * p + w) ≡ ordering_then order (nat_cmp v w)
decided p x y v w Less is low low' = less (x * p + v) (y * p + w) (carried p x y v w low (ranked x y Less is))
decided p x y v w Equal is low low' = ap (λ k. nat_cmp (x * p + v) (k * p + w)) (sym (ranked x y Equal is)) ∙ same_front (x * p) v w
decided p x y v w Greater is low low' = greater (x * p + v) (y * p + w) (carried p y x w v low' (ranked x y Greater is))

then_assoc : (a b c : Ordering) → ordering_then a (ordering_then b c) ≡ ordering_then (ordering_then a b) c
then_assoc Less b c = refl
then_assoc Equal b c = refl
then_assoc Greater b c = refl

number_next : (n x : ℕ) (xs : List ℕ) → big_number (suc n) (x ∷ xs) ≡ x * 256 ^ n + big_number n xs
number_next n x xs = ap (λ rest. x * 256 ^ n + rest) (big_from-cons 0 n x xs)

-- the numbers in the first n bytes decide, and then the bytes behind them
pub numbers_decide : (n : ℕ) (xs ys : List ℕ) → IsBytes xs → IsBytes ys → n ≤ length xs → n ≤ length ys →
    slice_cmp nat_cmp xs ys ≡ ordering_then (nat_cmp (big_number n xs) (big_number n ys)) (slice_cmp nat_cmp (drop n xs) (drop n ys))
numbers_decide zero xs ys fits fits' long long' = refl
numbers_decide (suc n) [] ys fits fits' long long' = absurd (omega arith)
numbers_decide (suc n) (x ∷ xs) [] fits fits' long long' = absurd (omega arith)
numbers_decide (suc n) (x ∷ xs) (y ∷ ys) fits fits' long long' =
    let v = big_number n xs in
    let w = big_number n ys in
    let rest = slice_cmp nat_cmp (drop n xs) (drop n ys) in
    let inner = numbers_decide n xs ys (λ i. fits (suc i)) (λ i. fits' (suc i)) (omega arith) (omega arith) in
    let outer = decided (256 ^ n) x y v w (nat_cmp x y) refl (big_from-lt 0 n xs (λ i. fits (suc i))) (big_from-lt 0 n ys (λ i. fits' (suc i))) in
    ap (ordering_then (nat_cmp x y)) inner
    ∙ then_assoc (nat_cmp x y) (nat_cmp v w) rest
    ∙ ap (λ o. ordering_then o rest) (sym outer)
    ∙ ap (λ a. ordering_then (nat_cmp a (y * 256 ^ n + w)) rest) (sym (number_next n x xs))
    ∙ ap (λ b. ordering_then (nat_cmp (big_number (suc n) (x ∷ xs)) b) rest) (sym (number_next n y ys))

after : (n : ℕ) (xs : List ℕ) → IsBytes xs → IsBytes (drop n xs)
after n xs fits i = rw get_or-drop (fits (n + i))

-- the number at a place decides, and then the bytes behind it
number_at : (a b : List ℕ) → IsBytes a → IsBytes b → length a ≡ 32 → length b ≡ 32 → (k : ℕ) → k + 8 ≤ 32 →
    ordering_then (nat_cmp (big_number 8 (drop k a)) (big_number 8 (drop k b))) (slice_cmp nat_cmp (drop (k + 8) a) (drop (k + 8) b))
    ≡ slice_cmp nat_cmp (drop k a) (drop k b)
number_at a b fits fits' long long' k within =
    let order : Ordering = nat_cmp (big_number 8 (drop k a)) (big_number 8 (drop k b)) in
    let decide =
    numbers_decide 8 (drop k a) (drop k b) (after k a fits) (after k b fits') (omega (arith, length-drop k a)) (omega (arith, length-drop k b)) in
    ap (λ xs. ordering_then order (slice_cmp nat_cmp xs (drop (k + 8) b))) (sym (drop-drop 8 k a))
    ∙ ap (λ ys. ordering_then order (slice_cmp nat_cmp (drop 8 (drop k a)) ys)) (sym (drop-drop 8 k b))
    ∙ sym decide

-- the four numbers of 32 bytes in turn
pub words_order : (a b : List ℕ) → IsBytes a → IsBytes b → length a ≡ 32 → length b ≡ 32 → slice_cmp nat_cmp (words_of a) (words_of b) ≡ slice_cmp nat_cmp a b
words_order a b fits fits' long long' =
    let order : ℕ → Ordering = λ k. nat_cmp (big_number 8 (drop k a)) (big_number 8 (drop k b)) in
    let at = number_at a b fits fits' long long' in
    let end : Equal ≡ slice_cmp nat_cmp (drop 32 a) (drop 32 b) =
    sym (ap (λ xs. slice_cmp nat_cmp xs (drop 32 b)) (drop_all 32 a (omega arith)) ∙ ap (slice_cmp nat_cmp []) (drop_all 32 b (omega arith))) in
    ap (λ o. ordering_then (order 0) (ordering_then (order 8) (ordering_then (order 16) (ordering_then (order 24) o)))) end
    ∙ ap (λ o. ordering_then (order 0) (ordering_then (order 8) (ordering_then (order 16) o))) (at 24 (omega arith))
    ∙ ap (λ o. ordering_then (order 0) (ordering_then (order 8) o)) (at 16 (omega arith))
    ∙ ap (ordering_then (order 0)) (at 8 (omega arith))
    ∙ at 0 (omega arith)

-- and whether they are the same ones
pub words_same : (a b : List ℕ) → IsBytes a → IsBytes b → length a ≡ 32 → length b ≡ 32 → bytes_eq (words_of a) (words_of b) ≡ bytes_eq a b
words_same a b fits fits' long long' =
    texts_ties (words_of a) (words_of b) ∙ ap is_eq (words_order a b fits fits' long long') ∙ sym (texts_ties a b)

-- the order of two lists of bytes, as `partial_cmp` answers it
pub as_partial : (a b : List ℕ) → Some (slice_cmp nat_cmp a b) ≡ slice_partial_cmp (λ x y. Some (nat_cmp x y)) a b
as_partial a b = sym (lists_agrees (λ x y. refl) a b)
