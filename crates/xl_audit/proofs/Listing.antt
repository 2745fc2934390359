-- A list's members are read back as they were written.
use Rattle.std.proofs.Common.{◌≡◌, ◌+◌, ◌<◌, ◌≤◌, ◌==◌, ℕ, true, not, List, [], ◌∷◌, length, map, Ok, refl, ap, ◌∙◌, arith, append-nil, decimal}
use Rattle.std.specs.List.{AllByRecursion, flat_map}
use Rattle.std.proofs.lemmas.Bool.Decides.{nat_tests}
use Rattle.std.proofs.lemmas.List.Elements.{recursion_from_All}
use Rattle.xl_lists.specs.Lists.{TrustedList, IsValid}
use Rattle.xl_lists.proofs.Rereading.{listed_again}
use Rattle.xl_sched.specs.Members.{numbers_of, members_of, trusted_of, unless_refused}
use Rattle.xl_sched.specs.Refusals.{◌>>=◌}
use Rattle.xl_sched.specs.Tokens.{entries}
use Rattle.xl_audit.specs.Journals.{members_text, other_text}
use Rattle.xl_audit.proofs.Numerals.{number_again}
use Rattle.xl_audit.proofs.Spelling.{is_word, both_words, words_all, decimal_has, decimal_word, one_part, part_then}

commaless : (d : ℕ) → d < 10 → not (48 + d == 44) ≡ true
commaless d h = grind (arith, nat_tests)

abbrev AreMembers : List ℕ → Type 0
AreMembers ms = AllByRecursion (λ m. (1 ≤ m) × (m ≤ 64)) ms

parts_again : (m : ℕ) (ms : List ℕ) → entries (members_text (m ∷ ms)) ≡ map (λ k. decimal k) (m ∷ ms)
parts_again m [] =
    ap entries (append-nil (decimal m)) ∙ one_part (λ b. b == 44) (decimal m) (decimal_has (λ b. not (b == 44)) commaless m)
parts_again m (k ∷ ks) =
    part_then (λ b. b == 44) 44 (decimal m) (members_text (k ∷ ks)) refl (decimal_has (λ b. not (b == 44)) commaless m)
    ∙ ap (λ (ts : List (List ℕ)). decimal m ∷ ts) (parts_again k ks)

numbers_again : (ms : List ℕ) → AreMembers ms → numbers_of (map (λ k. decimal k) ms) ≡ Ok ms
numbers_again [] all = refl
numbers_again (m ∷ ms) all =
    ap (λ first. first >>= (λ number. numbers_of (map (λ k. decimal k) ms) >>= (λ numbers. Ok (number ∷ numbers)))) (number_again m (omega (arith, all.0.1)))
    ∙ ap (λ rest. rest >>= (λ numbers. Ok (m ∷ numbers))) (numbers_again ms all.1)

some_again : (ms : List ℕ) → 1 ≤ length ms → AreMembers ms → members_of (members_text ms) ≡ Ok ms
some_again [] some all = absurd (omega (arith, some))
some_again (m ∷ ms) some all = ap numbers_of (parts_again m ms) ∙ numbers_again (m ∷ ms) all

-- the members of a list
pub members_again : (list : TrustedList) → IsValid list → members_of (members_text list.members) ≡ Ok list.members
members_again list valid =
    some_again list.members valid.some (recursion_from_All (λ m. (1 ≤ m) × (m ≤ 64)) list.members valid.numbers)

-- and the list
pub list_again : (list : TrustedList) → IsValid list → trusted_of list.members list.quorum ≡ Ok list
list_again list valid = ap unless_refused (listed_again list valid)

other_word : (m : ℕ) → is_word (other_text m) ≡ true
other_word m = decimal_word m

-- they are written as one word
pub members_word : (ms : List ℕ) → is_word (members_text ms) ≡ true
members_word [] = refl
members_word (m ∷ ms) = both_words (decimal m) (flat_map other_text ms) (decimal_word m) (words_all other_text other_word ms)
