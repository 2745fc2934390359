-- Numbers in decimal digits, and ids in hexadecimal ones.
use Rattle.std.proofs.Common.{◌≡◌, ◌/◌, ◌%◌, ◌^◌, ◌≤◌, ◌<◌, ◌==◌, ◌||◌, ℕ, suc, true, not, List, [], ◌∷◌, length, slice_index, Some, ap, ◌∙◌, arith, rules, decimal}
use Rattle.std.specs.List.{list_all, AllByRecursion}
use Rattle.std.specs.Char.{is_ascii_digit}
use Rattle.std.specs.Result.{result_ok}
use Rattle.std.specs.Str.Parse.{digits_value}
use Rattle.std.proofs.lemmas.Bool.{and_parts}
use Rattle.std.proofs.lemmas.Bool.Decides.{nat_tests}
use Rattle.std.proofs.lemmas.Fmt.{decimal-digits_value}
use Rattle.std.proofs.lemmas.Str.Parse.{IsNumeralModel, numerals_by_value}
use Rattle.hex.specs.Hex.{IsBytes, encode_lower, encode_with, lower_digits, decode_sized, decode_pairs, hex_digit_value}
use Rattle.hex.proofs.HexLemmas.{length-encode_with, decode_pairs-encode_with, IsDigits-lower_digits}
use Rattle.xl_sched.specs.Numbers.{is_number, value_of}
use Rattle.xl_base.specs.Ids.{IsId}

abbrev pub AreDigits : List ℕ → Type 0
AreDigits ds = list_all is_ascii_digit ds ≡ true

-- decimal digits, and the number that they write
pub own : IsNumeralModel AreDigits (digits_value 10)
own = numerals_by_value AreDigits (search rules)

-- a number has one spelling
pub decimal-value : (t : List ℕ) → is_number t ≡ true → value_of t < 2 ^ 64 → decimal (value_of t) ≡ t
decimal-value [] h small = absurd (cc)
decimal-value (first ∷ rest) h small =
    let parts = and_parts (list_all is_ascii_digit (first ∷ rest)) (not (first == 48) || length rest == 0) h in
    decimal-digits_value own (first ∷ rest) parts.0 (omega arith) (λ e. grind (arith, nat_tests)) small

pub id-written : (id : List ℕ) → IsId id → result_ok (decode_sized (encode_lower id) 32) ≡ Some id
id-written id h =
    let two = length-encode_with lower_digits id in
    let pairs : decode_sized (encode_lower id) 32 ≡ decode_pairs 0 (encode_lower id) = grind (arith, nat_tests) in
    ap result_ok (pairs ∙ decode_pairs-encode_with lower_digits IsDigits-lower_digits 0 id h.1)

-- bytes that stand in a token and no list: none is a control byte, a blank or a comma
abbrev pub IsSolid : ℕ → Type 0
IsSolid b = (45 ≤ b) × (b ≤ 126)

hex-solid : (c d : ℕ) → hex_digit_value c ≡ Some d → IsSolid c
hex-solid c d e = (grind (arith, nat_tests), grind (arith, nat_tests))

pub digits-solid : (bytes : List ℕ) → IsBytes bytes → AllByRecursion IsSolid (encode_lower bytes)
unfolding encode_with
digits-solid [] h = tt
digits-solid (b ∷ bs) h =
    let fits : b < 256 = h 0 in
    let high : b / 16 < 16 = omega arith in
    let low : b % 16 < 16 = omega arith in (
      hex-solid (slice_index lower_digits (b / 16)) (b / 16) (IsDigits-lower_digits (b / 16) high),
      (hex-solid (slice_index lower_digits (b % 16)) (b % 16) (IsDigits-lower_digits (b % 16) low), digits-solid bs (λ k. h (suc k))),
    )
