-- What is made of one number after another, up to 64.
use Rattle.std.proofs.Common.{◌≡◌, ◌++◌, ◌+◌, ◌-◌, ◌<◌, ◌≤◌, ◌∙◌, ℕ, suc, Bool, true, false, cond, List, ◌∷◌, Some, ap, append_assoc, arith, inl, inr, subst, sym}
use Rattle.std.specs.Prelude.{find}
use Rattle.std.specs.List.{flat_map, range_with_len}
use Rattle.std.proofs.lemmas.Bool.{cases_lt}
use Rattle.xl_base.specs.Members.{greatest_node_no}

-- the number behind the greatest of a member
abbrev pub behind_all : ℕ
behind_all = greatest_node_no + 1

one_left : (n : ℕ) → n ≤ greatest_node_no → behind_all - n ≡ suc (behind_all - (n + 1))
one_left n h = omega (arith, h)

range_from : (n : ℕ) → n ≤ greatest_node_no → range_with_len n (behind_all - n) ≡ n ∷ range_with_len (n + 1) (behind_all - (n + 1))
range_from n h = ap (range_with_len n) (one_left n h)

-- the part of a number is added to the text
pub text_goes_on : (f : ℕ → List ℕ) (n : ℕ) (so_far now whole : List ℕ) → n ≤ greatest_node_no → now ≡ so_far ++ f n
    → so_far ++ flat_map f (range_with_len n (behind_all - n)) ≡ whole
    → now ++ flat_map f (range_with_len (n + 1) (behind_all - (n + 1))) ≡ whole
text_goes_on f n so_far now whole h more is =
    ap (λ (xs : List ℕ). xs ++ flat_map f (range_with_len (n + 1) (behind_all - (n + 1)))) more
    ∙ (append_assoc so_far (f n) (flat_map f (range_with_len (n + 1) (behind_all - (n + 1))))
    ∙ (ap (λ (ns : List ℕ). so_far ++ flat_map f ns) (sym (range_from n h)) ∙ is))

-- a number that passes is the first
pub found_first : (p : ℕ → Bool) (n : ℕ) → n ≤ greatest_node_no → p n ≡ true → find p (range_with_len n (behind_all - n)) ≡ Some n
found_first p n h passes =
    ap (find p) (range_from n h)
    ∙ ap (λ (b : Bool). cond b (Some n) (find p (range_with_len (n + 1) (behind_all - (n + 1))))) passes

-- one that doesn't is left out
pub found_later : (p : ℕ → Bool) (n : ℕ) → n ≤ greatest_node_no → p n ≡ false
    → find p (range_with_len n (behind_all - n)) ≡ find p (range_with_len (n + 1) (behind_all - (n + 1)))
found_later p n h fails =
    ap (find p) (range_from n h)
    ∙ ap (λ (b : Bool). cond b (Some n) (find p (range_with_len (n + 1) (behind_all - (n + 1))))) fails

-- three parts that are added to a text, one after the other
pub three_parts : (old first second now a b c : List ℕ) → first ≡ old ++ a → second ≡ first ++ b → now ≡ second ++ c
    → now ≡ old ++ (a ++ (b ++ c))
three_parts old first second now a b c one two three =
    three ∙ (ap (λ (xs : List ℕ). xs ++ c) (two ∙ ap (λ (xs : List ℕ). xs ++ b) one) ∙ simp append_assoc)

-- what holds of each number so far, and of the next, holds of each up to it
pub all_so_far : (P : ℕ → Type 0) (n : ℕ) → ((m : ℕ) → 1 ≤ m → m < n → P m) → P n → (m : ℕ) → 1 ≤ m → m < n + 1 → P m
all_so_far P n so_far here m low high = elim (cases_lt m n) [
  | inl lt ↦ so_far m low lt
  | inr ge ↦ let same : n ≡ m = omega (arith, ge, high) in subst P same here
]
