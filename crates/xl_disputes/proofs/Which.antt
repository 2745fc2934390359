-- The bits of what an id has are the places whose set has it.
use Rattle.std.proofs.Common.{◌≡◌, ℕ, zero, suc, ◌+◌, ◌*◌, ◌/◌, ◌%◌, ◌^◌, ◌==◌, Bool, true, false, cond, List, [], ◌∷◌, length, map, refl, sym, ap, ◌∙◌, arith}
use Rattle.std.specs.List.{range_with_len}
use Rattle.std.specs.Int.{bit_at}
use Rattle.std.proofs.Math.Nat.{pow-suc}
use Rattle.std.proofs.lemmas.List.{length-map}
use Rattle.std.proofs.lemmas.List.Sums.{sum_by-cons}
use Rattle.std.proofs.lemmas.Nat.Bits.{bit_at_lowest, bit_at-suc}
use Rattle.xl_base.specs.declared.ids.TxId.{TxId}
use Rattle.xl_disputes.specs.Disputes.{has}
use Rattle.xl_disputes.specs.Tallies.{holders}
use Rattle.xl_disputes.specs.Holdings.{Holding, member_bits, ids_in, amount, total}
use Rattle.xl_disputes.proofs.Votings.{alone_ours, ours_are}

-- the number that has these bits
abbrev mask : List Bool → ℕ
mask [] = 0
mask (b ∷ bs) = cond b 1 0 + 2 * mask bs

-- ---- the sum of the members' bits is such a number

scaled : (p m : ℕ) (b : Bool) → cond b p 0 + (p * 2) * m ≡ p * (cond b 1 0 + 2 * m)
scaled p m true = omega arith
scaled p m false = omega arith

abbrev first_bit : ℕ → List ℕ → ℕ
first_bit d [] = d
first_bit d (bit ∷ bits) = bit

abbrev rest_bits : List ℕ → List ℕ
rest_bits [] = []
rest_bits (bit ∷ bits) = bits

amount_mask : (tx : TxId) (s n : ℕ) (hs : List Holding) → map (λ h. h.bit) hs ≡ map (λ m. 2 ^ m) (range_with_len s n) →
    amount (λ h. h.bit) tx hs ≡ 2 ^ s * mask (map (λ h. has (ids_in h) tx) hs)
amount_mask tx s n [] bits = omega arith
amount_mask tx s zero (h ∷ hs) bits = absurd (cc bits)
amount_mask tx s (suc n) (h ∷ hs) bits =
    let m : ℕ = mask (map (λ x. has (ids_in x) tx) hs) in
    let head : h.bit ≡ 2 ^ s = ap (first_bit 0) bits in
    let more : amount (λ x. x.bit) tx hs ≡ 2 ^ (s + 1) * m = amount_mask tx (s + 1) n hs (ap rest_bits bits) in
    let next : 2 ^ (s + 1) ≡ 2 ^ s * 2 = pow_more s in
    sum_by-cons (λ (x : Holding). cond (has (ids_in x) tx) x.bit 0) h hs
    ∙ ap (λ k. cond (has (ids_in h) tx) k 0 + amount (λ x. x.bit) tx hs) head
    ∙ ap (λ k. cond (has (ids_in h) tx) (2 ^ s) 0 + k) (more ∙ ap (λ p. p * m) next)
    ∙ scaled (2 ^ s) m (has (ids_in h) tx)
  where
    pow_more : (k : ℕ) → 2 ^ (k + 1) ≡ 2 ^ k * 2
    pow_more k = let e : k + 1 ≡ suc k = omega arith in rw e (pow-suc 2 k)

-- ---- its bits

parity : (b : Bool) (m : ℕ) → (((cond b 1 0 + 2 * m) % 2) == 1) ≡ b
parity true m = let e : (1 + 2 * m) % 2 ≡ 1 = omega arith in rw e refl
parity false m = let e : (0 + 2 * m) % 2 ≡ 0 = omega arith in rw e refl

half : (b : Bool) (m : ℕ) → (cond b 1 0 + 2 * m) / 2 ≡ m
half true m = omega arith
half false m = omega arith

shifted : (b : Bool) (bs : List Bool) (s n : ℕ) →
    map (λ i. bit_at (mask (b ∷ bs)) i == 1) (range_with_len (s + 1) n) ≡ map (λ i. bit_at (mask bs) i == 1) (range_with_len s n)
shifted b bs s zero = refl
shifted b bs s (suc n) =
    let e : s + 1 ≡ suc s = omega arith in
    let one : (bit_at (mask (b ∷ bs)) (s + 1) == 1) ≡ (bit_at (mask bs) s == 1) =
    ap (λ i. bit_at (mask (b ∷ bs)) i == 1) e ∙ ap (λ x. x == 1) (bit_at-suc (mask (b ∷ bs)) s ∙ ap (λ m. bit_at m s) (half b (mask bs))) in
    ap (λ x. x ∷ map (λ i. bit_at (mask (b ∷ bs)) i == 1) (range_with_len (s + 1 + 1) n)) one
    ∙ ap (λ xs. (bit_at (mask bs) s == 1) ∷ xs) (shifted b bs (s + 1) n)

bits_mask : (bs : List Bool) → map (λ i. bit_at (mask bs) i == 1) (range_with_len 0 (length bs)) ≡ bs
bits_mask [] = refl
bits_mask (b ∷ bs) =
    ap (λ x. x ∷ map (λ i. bit_at (mask (b ∷ bs)) i == 1) (range_with_len 1 (length bs))) (ap (λ n. n == 1) (bit_at_lowest (mask (b ∷ bs))) ∙ parity b (mask bs))
    ∙ ap (λ xs. b ∷ xs) (shifted b bs 0 (length bs) ∙ bits_mask bs)

-- ---- all of it

members_are : (tx : TxId) (hs : List Holding) → map (λ h. h.bit) hs ≡ member_bits →
    map (λ i. bit_at (amount (λ h. h.bit) tx hs) i == 1) (range_with_len 0 64) ≡ map (λ h. has (ids_in h) tx) hs
members_are tx hs bits =
    let bs : List Bool = map (λ h. has (ids_in h) tx) hs in
    let count : length bs ≡ 64 = length-map hs (λ h. has (ids_in h) tx) ∙ sym (length-map hs (λ h. h.bit)) ∙ ap length bits in
    let sum : amount (λ h. h.bit) tx hs ≡ mask bs = amount_mask tx 0 64 hs bits ∙ once (mask bs) in
    ap (λ m. map (λ i. bit_at m i == 1) (range_with_len 0 64)) sum ∙ ap (λ n. map (λ i. bit_at (mask bs) i == 1) (range_with_len 0 n)) (sym count) ∙ bits_mask bs
  where
    once : (m : ℕ) → 2 ^ 0 * m ≡ m
    once m = omega arith

pub holders_are : (hs : List Holding) (tx : TxId) → map (λ h. h.bit) hs ≡ 0 ∷ member_bits → holders (total hs tx) ≡ map (λ h. has (ids_in h) tx) hs
holders_are [] tx bits = absurd (cc bits)
holders_are (h ∷ hs) tx bits =
    let head : h.bit ≡ 0 = ap (first_bit 1) bits in
    let sum : amount (λ x. x.bit) tx (h ∷ hs) ≡ amount (λ x. x.bit) tx hs =
    sum_by-cons (λ (x : Holding). cond (has (ids_in x) tx) x.bit 0) h hs ∙ ap (λ k. cond (has (ids_in h) tx) k 0 + amount (λ x. x.bit) tx hs) head
    ∙ nothing (has (ids_in h) tx) (amount (λ x. x.bit) tx hs) in
    ap (λ x. x ∷ map (λ i. bit_at (amount (λ y. y.bit) tx (h ∷ hs)) i == 1) (range_with_len 0 64)) (ours_are tx (h ∷ hs) (alone_ours (h ∷ hs) bits))
    ∙ ap (λ m. has (ids_in h) tx ∷ map (λ i. bit_at m i == 1) (range_with_len 0 64)) sum
    ∙ ap (λ xs. has (ids_in h) tx ∷ xs) (members_are tx hs (ap rest_bits bits))
  where
    nothing : (b : Bool) (n : ℕ) → cond b 0 0 + n ≡ n
    nothing true n = omega arith
    nothing false n = omega arith
