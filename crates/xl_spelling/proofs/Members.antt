-- A list, written by its members and read again.
use Rattle.std.proofs.Common.{◌≡◌, ◌+◌, ◌*◌, ◌^◌, ◌-◌, ◌≤◌, ◌<◌, ◌==◌, ◌&&◌, ◌||◌, ℕ, Bool, true, false, not, cond, nat_le, List, [], ◌∷◌, length, map, get_or, Option, Some, None, Ok, Err, refl, ap, ap₂, sym, ◌∙◌, subst, arith, decimal}
use Rattle.std.specs.Char.{is_ascii_digit}
use Rattle.std.specs.Int.Digits.{digits_of}
use Rattle.std.specs.List.{AllByRecursion, list_all}
use Rattle.std.proofs.lemmas.Bool.{and_parts}
use Rattle.std.proofs.lemmas.Bool.Decides.{nat_tests}
use Rattle.std.proofs.lemmas.Fmt.{decimal-digits_of, decimal_is_IsNumeral, digits_decimal, digits_value-decimal, length-decimal-le}
use Rattle.std.proofs.lemmas.Int.Digits.{first_digits_of}
use Rattle.std.proofs.lemmas.List.Elements.{recursion_from_All}
use Rattle.xl_base.specs.Refusals.{unless_refused as list_unless_refused}
use Rattle.xl_lists.specs.declared.refusal.ListRefusal.{ListRefusal}
use Rattle.xl_lists.specs.Lists.{TrustedList, IsValid, refusal_of, rising}
use Rattle.xl_lists.proofs.Rereading.{listed_again, unrefused}
use Rattle.xl_sched.specs.declared.refusal.SchedRefusal.TheVariants as refusal
use Rattle.xl_sched.specs.Refusals.{◌>>=◌}
use Rattle.xl_sched.specs.Tokens.{entries}
use Rattle.xl_sched.specs.Numbers.{is_number, value_of, number_of}
use Rattle.xl_sched.specs.Members.{numbers_of, members_of, unless_refused, trusted_of}
use Rattle.xl_spelling.specs.Spellings.{with_commas}
use Rattle.xl_spelling.proofs.Joins.{Clear, cut-joined, joined-spread, joined-all, spread}
use Rattle.xl_spelling.proofs.Numerals.{own}
use Rattle.xl_spelling.proofs.Parts.{Gives, same-ok}
use Rattle.xl_spelling.proofs.Small.{IsInk, IsSmall, digits-ink}

-- ONE MEMBER

-- digits are no commas
digits-clear : (t : List ℕ) → list_all is_ascii_digit t ≡ true → Clear (λ b. b == 44) t
digits-clear [] h = tt
digits-clear (b ∷ bs) h =
    let parts = and_parts (is_ascii_digit b) (list_all is_ascii_digit bs) h in
    let digit = parts.0 in
    (grind (arith, nat_tests), digits-clear bs parts.1)

above-zero : (d : ℕ) → 0 < d → (48 + d == 48) ≡ false
above-zero d h = grind (arith, nat_tests)

-- digits of which the first isn't 0 are a number
first-digit : (ds : List ℕ) → 0 < get_or ds 0 0 → list_all is_ascii_digit (map (λ d. 48 + d) ds) ≡ true → is_number (map (λ d. 48 + d) ds) ≡ true
first-digit [] above digits = absurd (omega (arith, above))
first-digit (d ∷ ds) above digits =
    ap₂ (λ (a b : Bool). a && (not b || length (map (λ d. 48 + d) ds) == 0)) digits (above-zero d above)

pub record IsMemberAgain (m : ℕ) (t : List ℕ) : Type 0 where
  pub number : is_number t ≡ true
  pub value : value_of t ≡ m
  some : 1 ≤ length t
  few : length t ≤ 2
  ink : AllByRecursion IsInk t
  clear : Clear (λ b. b == 44) t

pub member-again : (m : ℕ) → 1 ≤ m → m ≤ 64 → IsMemberAgain m (decimal m)
member-again m least greatest =
    let t = decimal m in
    let small : m < 2 ^ 64 = omega (arith, greatest) in
    let digits : list_all is_ascii_digit t ≡ true = digits_decimal own m small in
    let of_digits : t ≡ map (λ d. 48 + d) (digits_of 10 m) = decimal-digits_of m (omega (arith, least)) small in
    let numeral = decimal_is_IsNumeral m small in
    record {
      number = subst (λ (ds : List ℕ). is_number ds ≡ true) (sym of_digits)
          (first-digit (digits_of 10 m) (first_digits_of 10 m (omega arith) (omega (arith, least))) (subst (λ (ds : List ℕ). list_all is_ascii_digit ds ≡ true) of_digits digits));
      value = digits_value-decimal own m small;
      some = omega (arith, numeral.0.0);
      few = length-decimal-le 2 m (omega arith) (omega (arith, greatest)) small;
      ink = digits-ink t digits;
      clear = digits-clear t digits;
    }

pub number-read : (m : ℕ) → 1 ≤ m → m ≤ 64 → number_of (decimal m) ≡ Ok m
number-read m least greatest =
    let again = member-again m least greatest in
    let is = again.number in
    let value = again.value in
    let small : value_of (decimal m) ≤ 2 ^ 32 - 1 = omega (arith, value, greatest) in
    let test : (is_number (decimal m) && nat_le 0 (value_of (decimal m)) && nat_le (value_of (decimal m)) (2 ^ 32 - 1)) ≡ true = grind (arith, nat_tests) in
    ap₂ (λ (b : Bool) (v : ℕ). cond b (Ok v) (Err (refusal.Number (decimal m)))) test value

-- ALL MEMBERS

abbrev pub texts : List ℕ → List (List ℕ)
texts ms = map (λ m. decimal m) ms

abbrev AreMembers : List ℕ → Type 0
AreMembers ms = AllByRecursion (λ m. (1 ≤ m) × (m ≤ 64)) ms

numbers-read : (ms : List ℕ) → AreMembers ms → numbers_of (texts ms) ≡ Ok ms
numbers-read [] h = refl
numbers-read (m ∷ ms) h =
    ap (λ read. read >>= (λ n. numbers_of (texts ms) >>= (λ ns. Ok (n ∷ ns)))) (number-read m h.0.0 h.0.1)
    ∙ ap (λ read. read >>= (λ ns. Ok (m ∷ ns))) (numbers-read ms h.1)

texts-clear : (ms : List ℕ) → AreMembers ms → AllByRecursion (Clear (λ b. b == 44)) (texts ms)
texts-clear [] h = tt
texts-clear (m ∷ ms) h = ((member-again m h.0.0 h.0.1).clear, texts-clear ms h.1)

texts-ink : (ms : List ℕ) → AreMembers ms → AllByRecursion (AllByRecursion IsInk) (texts ms)
texts-ink [] h = tt
texts-ink (m ∷ ms) h = ((member-again m h.0.0 h.0.1).ink, texts-ink ms h.1)

texts-spread : (ms : List ℕ) → AreMembers ms → spread (texts ms) ≤ 3 * length ms
texts-spread [] h = omega arith
texts-spread (m ∷ ms) h = omega (arith, (member-again m h.0.0 h.0.1).few, texts-spread ms h.1)

-- the members of a list are read again from their digits, which are few
pub record AreMembersAgain (ms : List ℕ) : Type 0 where
  pub same : members_of (with_commas (texts ms)) ≡ Ok ms
  pub small : IsSmall 192 (with_commas (texts ms))

again : (ms : List ℕ) → 1 ≤ length ms → length ms ≤ 64 → AreMembers ms → AreMembersAgain ms
again [] some few are = absurd (omega (arith, some))
again (m ∷ ms) some few are =
    let clear = texts-clear (m ∷ ms) are in
    let cut : entries (with_commas (texts (m ∷ ms))) ≡ texts (m ∷ ms) = cut-joined 44 (λ b. b == 44) (decimal m) (texts ms) refl clear.0 clear.1 in
    let first = member-again m are.0.0 are.0.1 in
    let long = joined-spread 44 (decimal m) (texts ms) in
    record {
      same = ap numbers_of cut ∙ numbers-read (m ∷ ms) are;
      small = record {
        some = omega (arith, long, first.some);
        few = omega (arith, long, texts-spread (m ∷ ms) are, few);
        ink = joined-all IsInk 44 (texts (m ∷ ms)) (omega arith, omega arith) (texts-ink (m ∷ ms) are);
      };
    }

pub list-again : (list : TrustedList) → IsValid list → AreMembersAgain list.members
list-again list valid = again list.members valid.some valid.at_most (recursion_from_All (λ m. (1 ≤ m) × (m ≤ 64)) list.members valid.numbers)

-- A LIST

-- a list that was read is one, with the quorum that was given
pub record IsTrusted (quorum : ℕ) (list : TrustedList) : Type 0 where
  pub valid : IsValid list
  pub its_quorum : list.quorum ≡ quorum

list-made : (members : List ℕ) (quorum : ℕ) (refused : Option ListRefusal) → refusal_of members quorum ≡ refused → (list : TrustedList) →
    Gives (unless_refused (list_unless_refused refused (record { members = rising members; quorum = quorum }))) list → IsTrusted quorum list
list-made members quorum None is list e =
    let made : TrustedList = record { members = rising members; quorum = quorum } in
    let same = same-ok made list e in
    record { valid = subst IsValid same (unrefused members quorum is); its_quorum = ap (λ (l : TrustedList). l.quorum) (sym same) }
list-made members quorum (Some why) is list e = absurd (cc)

pub trusted-made : (members : List ℕ) (quorum : ℕ) (list : TrustedList) → trusted_of members quorum ≡ Ok list → IsTrusted quorum list
trusted-made members quorum list e = list-made members quorum (refusal_of members quorum) refl list e

-- and it is read again from its members
pub trusted-again : (list : TrustedList) (quorum : ℕ) → IsTrusted quorum list → trusted_of list.members quorum ≡ Ok list
trusted-again list quorum trusted = ap (trusted_of list.members) (sym trusted.its_quorum) ∙ ap unless_refused (listed_again list trusted.valid)
