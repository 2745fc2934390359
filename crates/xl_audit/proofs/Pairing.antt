-- Digits, pair after pair.
use Rattle.std.proofs.Common.{◌≡◌, ℕ, ◌+◌, ◌*◌, ◌/◌, ◌%◌, ◌<◌, ◌≤◌, ◌==◌, ◌&&◌, Bool, true, List, [], ◌∷◌, ◌++◌, length, take, drop, slice_index, Ok, sym, ap, ap₂, ◌∙◌, arith}
use Rattle.std.specs.List.{list_all, slice_set}
use Rattle.std.proofs.lemmas.Bool.{and_parts}
use Rattle.std.proofs.lemmas.Bool.Decides.{nat_tests}
use Rattle.std.proofs.lemmas.List.{append_assoc, append-nil, drop_all, take_more}
use Rattle.hex.specs.Hex.{decode_pairs, encode_lower, encode_with, lower_digits, pair_value}
use Rattle.hex.proofs.Pairs.{decode_done, decode_step, drop-pair, encode_with-drop, prepend}
use Rattle.xl_audit.specs.Tokens.{is_lower_digit}

-- WHAT DIGITS STAND FOR

-- the bytes of the first i pairs stand in a room, and all before the next pair are digits
pub record IsDecoded (s room : List ℕ) (i : ℕ) : Type 0 where
  pub digits : list_all is_lower_digit (drop (2 * i) s) ≡ list_all is_lower_digit s
  pub bytes : decode_pairs 0 s ≡ prepend (take i room) (decode_pairs (2 * i) (drop (2 * i) s))

-- the digits from a pair on
digits_from : (s : List ℕ) (i : ℕ) → 2 * i + 1 < length s
    → list_all is_lower_digit (drop (2 * i) s)
    ≡ (is_lower_digit (slice_index s (2 * i)) && (is_lower_digit (slice_index s (2 * i + 1)) && list_all is_lower_digit (drop (2 * (i + 1)) s)))
digits_from s i fits = ap (list_all is_lower_digit) (drop-pair s i fits)

pub more_decoded : (s room : List ℕ) (i v : ℕ) → 2 * i + 1 < length s → i < length room
    → is_lower_digit (slice_index s (2 * i)) ≡ true → is_lower_digit (slice_index s (2 * i + 1)) ≡ true
    → pair_value (slice_index s (2 * i)) (slice_index s (2 * i + 1)) (2 * i) ≡ Ok v
    → IsDecoded s room i → IsDecoded s (slice_set room i v) (i + 1)
more_decoded s room i v fits within high low pair so_far =
    let rest : Bool = list_all is_lower_digit (drop (2 * (i + 1)) s) in
    let both : list_all is_lower_digit (drop (2 * i) s) ≡ rest =
    digits_from s i fits ∙ ap₂ (λ (a b : Bool). a && (b && rest)) high low in
    record {
      digits = sym both ∙ so_far.digits;
      bytes = decode_step s room i v fits within pair so_far.bytes;
    }

-- what is asked of all is so at each pair
pub digits_here : (s room : List ℕ) (i : ℕ) → 2 * i + 1 < length s → list_all is_lower_digit s ≡ true → IsDecoded s room i
    → (is_lower_digit (slice_index s (2 * i)) ≡ true) × (is_lower_digit (slice_index s (2 * i + 1)) ≡ true)
digits_here s room i fits all so_far =
    let rest : Bool = list_all is_lower_digit (drop (2 * (i + 1)) s) in
    let high : Bool = is_lower_digit (slice_index s (2 * i)) in
    let low : Bool = is_lower_digit (slice_index s (2 * i + 1)) in
    let both : (high && (low && rest)) ≡ true = sym (digits_from s i fits) ∙ so_far.digits ∙ all in
    let first = and_parts high (low && rest) both in
    (first.0, (and_parts low rest first.1).0)

pub all_decoded : (s room : List ℕ) (i : ℕ) → length room ≤ i → length s ≤ 2 * i → IsDecoded s room i
    → decode_pairs 0 s ≡ Ok room
all_decoded s room i full done so_far = decode_done s room i full done so_far.bytes

-- WHICH DIGITS STAND FOR BYTES

pub two_more : (s : List ℕ) (i : ℕ) → 2 * i + 1 < length s
    → take (2 * (i + 1)) s ≡ take (2 * i) s ++ (slice_index s (2 * i) ∷ slice_index s (2 * i + 1) ∷ [])
two_more s i fits =
    let two : 2 * (i + 1) ≡ 2 * i + 1 + 1 = omega arith in
    let second = take_more s (2 * i + 1) 0 (omega arith) in
    let first = take_more s (2 * i) 0 (omega arith) in
    rw (two, second, first) (append_assoc (take (2 * i) s) (slice_index s (2 * i) ∷ []) (slice_index s (2 * i + 1) ∷ []))

-- the digits of one byte more stand there
pub one_more : (text bytes : List ℕ) (i : ℕ) → 2 * i + 1 < length text → i < length bytes
    → slice_index text (2 * i) ≡ slice_index lower_digits (slice_index bytes i / 16)
    → slice_index text (2 * i + 1) ≡ slice_index lower_digits (slice_index bytes i % 16)
    → take (2 * i) text ++ encode_lower (drop i bytes) ≡ encode_lower bytes
    → take (2 * (i + 1)) text ++ encode_lower (drop (i + 1) bytes) ≡ encode_lower bytes
one_more text bytes i fits within high low so_far =
    let rest = encode_with-drop lower_digits bytes i within in
    ap (λ (front : List ℕ). front ++ encode_lower (drop (i + 1) bytes)) (two_more text i fits)
    ∙ append_assoc (take (2 * i) text) (slice_index text (2 * i) ∷ slice_index text (2 * i + 1) ∷ []) (encode_lower (drop (i + 1) bytes))
    ∙ ap₂ (λ (a b : ℕ). take (2 * i) text ++ (a ∷ b ∷ encode_lower (drop (i + 1) bytes))) high low
    ∙ ap (λ (xs : List ℕ). take (2 * i) text ++ xs) (sym rest)
    ∙ so_far

-- the digits of all stand there
pub all_stand : (text bytes : List ℕ) (i : ℕ) → length bytes ≤ i
    → take (2 * i) text ++ encode_lower (drop i bytes) ≡ encode_lower bytes → i ≡ length bytes
    → take (2 * length bytes) text ≡ encode_lower bytes
unfolding encode_with
all_stand text bytes i done so_far is =
    ap (λ (n : ℕ). take (2 * n) text) (sym is)
    ∙ sym (append-nil (take (2 * i) text))
    ∙ ap (λ (xs : List ℕ). take (2 * i) text ++ encode_lower xs) (sym (drop_all i bytes done))
    ∙ so_far

-- a count that is tested to be nothing
pub is_nothing : (n : ℕ) → (n == 0) ≡ true → n ≡ 0
is_nothing n h = grind (arith, nat_tests)
