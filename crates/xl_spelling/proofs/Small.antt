-- Tokens that are short, and whose bytes are visible.
use Rattle.std.proofs.Common.{◌≡◌, ◌+◌, ◌*◌, ◌^◌, ◌-◌, ◌≤◌, ◌<◌, ◌==◌, ◌&&◌, ◌||◌, ◌⊎◌, inl, inr, ℕ, Bool, true, false, not, cond, nat_le, List, [], ◌∷◌, length, Ok, Err, refl, ap, arith, codes}
use Rattle.std.specs.List.{AllByRecursion, list_all}
use Rattle.std.specs.Char.{is_ascii_digit}
use Rattle.std.proofs.lemmas.Bool.{and_parts}
use Rattle.std.proofs.lemmas.Bool.Decides.{nat_tests}
use Rattle.std.proofs.lemmas.Fmt.{length-decimal-le}
use Rattle.hex.specs.Hex.{IsBytes, encode_lower, lower_digits}
use Rattle.hex.proofs.HexLemmas.{length-encode_with}
use Rattle.xl_lists.specs.Lists.{is_on}
use Rattle.xl_sched.specs.declared.refusal.SchedRefusal.TheVariants as refusal
use Rattle.xl_sched.specs.Numbers.{is_number, number_within, number_of}
use Rattle.xl_sched.specs.Members.{member_of, declared_of}
use Rattle.xl_spelling.specs.Spellings.{kind_word, held_word}
use Rattle.xl_base.specs.Ids.{IsId}
use Rattle.xl_spelling.proofs.Joins.{spread}
use Rattle.xl_spelling.proofs.Numerals.{IsSolid, digits-solid}
use Rattle.xl_spelling.proofs.Parts.{steps, number_within-same}

-- a visible byte of ASCII, which is no blank
abbrev pub IsInk : ℕ → Type 0
IsInk b = (33 ≤ b) × (b ≤ 126)

-- 1 to so many visible bytes
pub record IsSmall (most : ℕ) (t : List ℕ) : Type 0 where
  pub some : 1 ≤ length t
  pub few : length t ≤ most
  pub ink : AllByRecursion IsInk t

-- whether all are visible
abbrev pub are_ink : List ℕ → Bool
are_ink t = list_all (λ b. nat_le 33 b && nat_le b 126) t

pub inked : (t : List ℕ) → are_ink t ≡ true → AllByRecursion IsInk t
inked [] h = tt
inked (b ∷ bs) h =
    let parts = and_parts (nat_le 33 b && nat_le b 126) (are_ink bs) h in
    let here = parts.0 in
    ((grind (arith, nat_tests), grind (arith, nat_tests)), inked bs parts.1)

solid-ink : (t : List ℕ) → AllByRecursion IsSolid t → AllByRecursion IsInk t
solid-ink [] h = tt
solid-ink (b ∷ bs) h = ((omega (arith, h.0.0), h.0.1), solid-ink bs h.1)

pub digits-ink : (t : List ℕ) → list_all is_ascii_digit t ≡ true → AllByRecursion IsInk t
digits-ink [] h = tt
digits-ink (b ∷ bs) h =
    let parts = and_parts (is_ascii_digit b) (list_all is_ascii_digit bs) h in
    let digit = parts.0 in
    ((grind (arith, nat_tests), grind (arith, nat_tests)), digits-ink bs parts.1)

pub number-ink : (t : List ℕ) → is_number t ≡ true → (1 ≤ length t) × AllByRecursion IsInk t
number-ink [] h = absurd (cc)
number-ink (first ∷ rest) h =
    (omega arith, digits-ink (first ∷ rest) (and_parts (list_all is_ascii_digit (first ∷ rest)) (not (first == 48) || length rest == 0) h).0)

-- a 32-bit number has at most 10 digits
pub number_within-small : (least greatest : ℕ) (t : List ℕ) (n : ℕ) → greatest < 2 ^ 32 → number_within least greatest t ≡ Ok n → IsSmall 10 t
number_within-small least greatest t n small e =
    let same = number_within-same least greatest t n (omega arith) e in
    let ink = number-ink t same.0 in
    record {
      some = ink.0;
      few = omega (arith, length-decimal-le 10 n (omega arith) (omega (arith, same.2)) (omega (arith, same.2)), ap length same.1);
      ink = ink.1;
    }

pub number-small : (t : List ℕ) (n : ℕ) → number_of t ≡ Ok n → IsSmall 10 t
number-small t n e = number_within-small 0 (2 ^ 32 - 1) t n (omega arith) e

pub kind-small : (full : Bool) → IsSmall 7 (kind_word full)
kind-small true = record { some = omega arith; few = omega arith; ink = inked (codes "full") refl }
kind-small false = record { some = omega arith; few = omega arith; ink = inked (codes "partial") refl }

pub held-small : (new : Bool) → IsSmall 3 (held_word new)
held-small true = record { some = omega arith; few = omega arith; ink = inked (codes "new") refl }
held-small false = record { some = omega arith; few = omega arith; ink = inked (codes "old") refl }

-- an id has 64 digits
pub id-small : (id : List ℕ) → IsId id → IsSmall 64 (encode_lower id)
id-small id h = record {
  some = omega (arith, h.0, length-encode_with lower_digits id);
  few = omega (arith, h.0, length-encode_with lower_digits id);
  ink = solid-ink (encode_lower id) (digits-solid id h.1);
}

-- and bytes have two each
pub bytes-small : (most : ℕ) (bytes : List ℕ) → IsBytes bytes → 1 ≤ length bytes → length bytes ≤ most → IsSmall (2 * most) (encode_lower bytes)
bytes-small most bytes h some few = record {
  some = omega (arith, some, length-encode_with lower_digits bytes);
  few = omega (arith, few, length-encode_with lower_digits bytes);
  ink = solid-ink (encode_lower bytes) (digits-solid bytes h);
}

pub declared-small : (nodes t : List ℕ) (n : ℕ) → declared_of nodes t ≡ Ok n → IsSmall 10 t
declared-small nodes t n e =
    let s = steps (member_of t) (λ m. cond (is_on nodes m) (Ok m) (Err (refusal.Absent t))) n e in
    number_within-small 1 64 t s.value (omega arith) s.gave

-- some visible bytes
abbrev pub IsInked : List ℕ → Type 0
IsInked t = (1 ≤ length t) × AllByRecursion IsInk t

pub small-inked : (most : ℕ) (t : List ℕ) → IsSmall most t → IsInked t
small-inked most t h = (h.some, h.ink)

-- tokens that are visible, and take no more than this with one more byte for each
abbrev pub AreShort : ℕ → List (List ℕ) → Type 0
AreShort most ts = AllByRecursion IsInked ts × (spread ts ≤ most)

-- tokens that are the same as others, or short
abbrev pub AreLike : ℕ → List (List ℕ) → List (List ℕ) → Type 0
AreLike most old new = (new ≡ old) ⊎ AreShort most new

-- one token more in front
pub like-more : (most few : ℕ) (t : List ℕ) (old new : List (List ℕ)) → IsSmall few t → AreLike most old new → AreLike (most + few + 1) (t ∷ old) (t ∷ new)
like-more most few t old new small (inl same) = inl (ap (λ ts. t ∷ ts) same)
like-more most few t old new small (inr short) = inr ((small-inked few t small, short.0), omega (arith, short.1, small.few))

pub like-widen : (few most : ℕ) (old new : List (List ℕ)) → few ≤ most → AreLike few old new → AreLike most old new
like-widen few most old new h (inl same) = inl same
like-widen few most old new h (inr short) = inr (short.0, omega (arith, short.1, h))
