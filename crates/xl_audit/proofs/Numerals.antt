-- Numbers, ids and bytes are read back as they were written.
use Rattle.std.proofs.Common.{◌≡◌, ◌+◌, ◌-◌, ◌*◌, ◌^◌, ◌/◌, ◌%◌, ◌<◌, ◌≤◌, ◌==◌, ◌&&◌, ◌||◌, ℕ, zero, suc, Bool, true, false, cond, not, nat_le, List, [], ◌∷◌, length, map, get_or, Ok, Err, refl, ap, ap₂, sym, ◌∙◌, arith, rules, decimal, codes}
use Rattle.std.specs.Prelude.{IsSome, is_some}
use Rattle.std.specs.List.{list_all, slice_index}
use Rattle.std.specs.Char.{is_ascii_digit}
use Rattle.std.specs.Int.Digits.{digits_of}
use Rattle.std.specs.Option.{ok_or}
use Rattle.std.specs.Result.{result_ok}
use Rattle.std.specs.Str.{bytes_eq}
use Rattle.std.specs.Str.Parse.{digits_value}
use Rattle.std.proofs.lemmas.Bool.{agree_below_at, and_from, cond-true, cond-false, false_from_ne_true, le-leb}
use Rattle.std.proofs.lemmas.Bool.Decides.{nat_tests}
use Rattle.std.proofs.lemmas.Fmt.{decimal-digits_of, decimal_digit, digits_decimal, digits_value-decimal}
use Rattle.std.proofs.lemmas.Int.Digits.{first_digits_of}
use Rattle.std.proofs.lemmas.Slice.Eq.{bytes_eq-Decides}
use Rattle.std.proofs.lemmas.Str.Parse.{IsNumeralModel, numerals_by_value}
use Rattle.hex.specs.Hex.{IsBytes, encode_lower, encode_with, lower_digits, decode_of, decode_sized}
use Rattle.hex.proofs.HexLemmas.{decode_of-encode_lower, decode_sized-encode_lower, length-encode_with}
use Rattle.xl_base.specs.Moments.{greatest_millis}
use Rattle.xl_tags.specs.Rings.{Ring, key_of}
use Rattle.xl_sched.specs.declared.refusal.SchedRefusal.TheVariants.{Number, Id}
use Rattle.xl_sched.specs.Members.{member_of}
use Rattle.xl_sched.specs.Numbers.{is_number, value_of, number_within, number_of}
use Rattle.xl_sched.specs.Refusals.{◌>>=◌}
use Rattle.xl_base.specs.Ids.{IsId}
use Rattle.xl_audit.specs.Tokens.{moment_of, number_from, is_lower_digit, id_of, bytes_of, peer_of}

-- NUMBERS

abbrev AreDigits : List ℕ → Type 0
AreDigits ds = list_all is_ascii_digit ds ≡ true

own : IsNumeralModel AreDigits (digits_value 10)
own = numerals_by_value AreDigits (search rules)

above_zero : (d : ℕ) → 0 < d → (48 + d == 48) ≡ false
above_zero d h = grind (arith, nat_tests)

-- digits of which the first isn't 0 are a number
first_digit : (ds : List ℕ) → 0 < get_or ds 0 0 → list_all is_ascii_digit (map (λ d. 48 + d) ds) ≡ true
    → is_number (map (λ d. 48 + d) ds) ≡ true
first_digit [] above digits = absurd (omega (arith, above))
first_digit (d ∷ ds) above digits =
    ap₂ (λ (a b : Bool). a && (not b || length (map (λ d. 48 + d) ds) == 0)) digits (above_zero d above)

number_is : (n : ℕ) → n < 2 ^ 64 → 0 < n → is_number (decimal n) ≡ true
number_is n small some =
    let of_digits : decimal n ≡ map (λ d. 48 + d) (digits_of 10 n) = decimal-digits_of n some small in
    ap is_number of_digits
    ∙ first_digit (digits_of 10 n) (first_digits_of 10 n (omega arith) some)
    (ap (list_all is_ascii_digit) (sym of_digits) ∙ digits_decimal own n small)

is_a_number : (n : ℕ) → n < 2 ^ 64 → is_number (decimal n) ≡ true
is_a_number zero small = ap is_number (decimal_digit 0 (omega arith))
is_a_number (suc n) small = number_is (suc n) small (omega arith)

-- a number within the bounds is read back
pub within_again : (least greatest n : ℕ) → least ≤ n → n ≤ greatest → greatest < 2 ^ 64
    → number_within least greatest (decimal n) ≡ Ok n
within_again least greatest n low high small =
    let value : value_of (decimal n) ≡ n = digits_value-decimal own n (omega (arith, high, small)) in
    let number : is_number (decimal n) ≡ true = is_a_number n (omega (arith, high, small)) in
    let at_least : nat_le least (value_of (decimal n)) ≡ true = le-leb least (value_of (decimal n)) (omega (arith, low, value)) in
    let at_most : nat_le (value_of (decimal n)) greatest ≡ true = le-leb (value_of (decimal n)) greatest (omega (arith, high, value)) in
    cond-true (is_number (decimal n) && nat_le least (value_of (decimal n)) && nat_le (value_of (decimal n)) greatest)
    (Ok (value_of (decimal n))) (Err (Number (decimal n)))
    (and_from (is_number (decimal n) && nat_le least (value_of (decimal n))) (nat_le (value_of (decimal n)) greatest)
    (and_from (is_number (decimal n)) (nat_le least (value_of (decimal n))) number at_least) at_most)
    ∙ ap (λ (m : ℕ). Ok m) value

pub number_again : (n : ℕ) → n < 2 ^ 32 → number_of (decimal n) ≡ Ok n
number_again n small = within_again 0 (2 ^ 32 - 1) n (omega arith) (omega (arith, small)) (omega arith)

pub member_again : (n : ℕ) → 1 ≤ n → n ≤ 64 → member_of (decimal n) ≡ Ok n
member_again n low high = within_again 1 64 n low high (omega arith)

pub moment_again : (n : ℕ) → n ≤ greatest_millis → moment_of (decimal n) ≡ Ok n
moment_again n high = within_again 0 greatest_millis n (omega arith) high (omega arith)

pub from_again : (least n : ℕ) → least ≤ n → n < 2 ^ 64 → number_from least (decimal n) ≡ Ok n
from_again least n low small = within_again least (2 ^ 64 - 1) n low (omega (arith, small)) (omega arith)

-- IDS AND BYTES

lower_at : (d : ℕ) → d < 16 → is_lower_digit (slice_index lower_digits d) ≡ true
lower_at d h = agree_below_at (λ k. is_lower_digit (slice_index lower_digits k)) (λ k. true) 16 d refl h

lower_digits_in : (bytes : List ℕ) → IsBytes bytes → list_all is_lower_digit (encode_lower bytes) ≡ true
unfolding encode_with
lower_digits_in [] h = refl
lower_digits_in (b ∷ bs) h =
    let fits : b < 256 = h 0 in
    let high : b / 16 < 16 = omega arith in
    let low : b % 16 < 16 = omega arith in
    and_from (is_lower_digit (slice_index lower_digits (b / 16))) _ (lower_at (b / 16) high)
    (and_from (is_lower_digit (slice_index lower_digits (b % 16))) (list_all is_lower_digit (encode_lower bs)) (lower_at (b % 16) low)
    (lower_digits_in bs (λ k. h (suc k))))

pub id_again : (id : List ℕ) → IsId id → id_of (encode_lower id) ≡ Ok id
id_again id h =
    cond-true (list_all is_lower_digit (encode_lower id)) (ok_or (result_ok (decode_sized (encode_lower id) 32)) (Id (encode_lower id))) (Err (Id (encode_lower id)))
    (lower_digits_in id h.1)
    ∙ ap (λ r. ok_or (result_ok r) (Id (encode_lower id))) (decode_sized-encode_lower id 32 h.0 h.1)

-- digits are not `-`
no_dash : (b : ℕ) (bs : List ℕ) → IsBytes (b ∷ bs) → bytes_eq (encode_lower (b ∷ bs)) (codes "-") ≡ false
unfolding encode_with
no_dash b bs h = by (slice_index lower_digits (b / 16)) (slice_index lower_digits (b % 16)) (encode_lower bs)
  where
    by : (c d : ℕ) (ds : List ℕ) → bytes_eq (c ∷ d ∷ ds) (codes "-") ≡ false
    by c d ds = false_from_ne_true (bytes_eq (c ∷ d ∷ ds) (codes "-"))
        (λ e. let is : (c ∷ d ∷ ds) ≡ codes "-" = (bytes_eq-Decides (c ∷ d ∷ ds) (codes "-")).0 e in
        let long : length (c ∷ d ∷ ds) ≡ 1 = ap length is in omega (arith, long))

some_digits : (b : ℕ) (bs : List ℕ) → not (length (encode_lower (b ∷ bs)) == 0) ≡ true
some_digits b bs =
    let long : length (encode_lower (b ∷ bs)) ≡ 2 * length (b ∷ bs) = length-encode_with lower_digits (b ∷ bs) in
    grind (arith, nat_tests)

-- bytes as lower-case digits
pub digits_again : (b : ℕ) (bs : List ℕ) → IsBytes (b ∷ bs) → bytes_of (encode_lower (b ∷ bs)) ≡ Ok (b ∷ bs)
digits_again b bs h =
    let text : List ℕ = encode_lower (b ∷ bs) in
    cond-false (bytes_eq text (codes "-")) (Ok []) _ (no_dash b bs h)
    ∙ cond-true (not (length text == 0) && list_all is_lower_digit text) (ok_or (result_ok (decode_of text)) (Id text)) (Err (Id text))
    (and_from (not (length text == 0)) (list_all is_lower_digit text) (some_digits b bs) (lower_digits_in (b ∷ bs) h))
    ∙ ap (λ r. ok_or (result_ok r) (Id text)) (decode_of-encode_lower (b ∷ bs) h)

pub peer_again : (ring : Ring) (m : ℕ) → 1 ≤ m → m ≤ 64 → IsSome (key_of ring m) → peer_of ring (decimal m) ≡ Ok m
peer_again ring m low high some =
    ap (λ read. read >>= (λ member. cond (is_some (key_of ring member)) (Ok member) (Err (Number (decimal m))))) (member_again m low high)
    ∙ cond-true (is_some (key_of ring m)) (Ok m) (Err (Number (decimal m))) some
