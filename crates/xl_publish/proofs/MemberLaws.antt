-- The members in the bytes of a roll, one after the other.
use Rattle.std.proofs.Common.{◌≡◌, ◌≢◌, ℕ, suc, ◌+◌, ◌-◌, ◌*◌, ◌<◌, Bool, true, false, not, List, ◌∷◌, drop, Option, Some, None, refl, sym, ap, ◌∙◌, arith}
use Rattle.std.specs.Prelude.{◌==◌, ◌||◌, find}
use Rattle.std.proofs.lemmas.Bool.{cond-true, cond-false}
use Rattle.std.proofs.lemmas.Bool.Decides.{nat_tests}
use Rattle.std.proofs.lemmas.List.{drop-drop}
use Rattle.byteorder.specs.Endian.{big_number}
use Rattle.xl_lists.specs.Lists.{is_on}
use Rattle.xl_publish.specs.Fields.{count_in, numbers_in, members_in}
use Rattle.xl_publish.specs.Refusing.{first_wrong, may_follow}
use Rattle.xl_publish.specs.declared.reading.TheConstants.{HEAD}

-- the members from a place on
abbrev pub left_at : ℕ → List ℕ → List ℕ
left_at place bytes = numbers_in (count_in bytes - place) (drop (HEAD + 4 * place) bytes)

abbrev pub member_in : ℕ → List ℕ → ℕ
member_in place bytes = big_number 4 (drop (HEAD + 4 * place) bytes)

pub all_left : (bytes : List ℕ) → left_at 0 bytes ≡ members_in bytes
all_left bytes = ap (λ (k : ℕ). numbers_in k (drop HEAD bytes)) (omega arith)

pub left_more : (place : ℕ) (bytes : List ℕ) → place < count_in bytes → left_at place bytes ≡ member_in place bytes ∷ left_at (place + 1) bytes
left_more place bytes lt =
    let one : count_in bytes - place ≡ suc (count_in bytes - (place + 1)) = omega arith in
    let next : drop 4 (drop (HEAD + 4 * place) bytes) ≡ drop (HEAD + 4 * (place + 1)) bytes = drop-drop 4 (HEAD + 4 * place) bytes ∙ ap (λ (k : ℕ). drop k bytes) (omega arith) in
    ap (λ (k : ℕ). numbers_in k (drop (HEAD + 4 * place) bytes)) one
    ∙ ap (λ (x : List ℕ). member_in place bytes ∷ numbers_in (count_in bytes - (place + 1)) x) next

-- a member that may follow is passed over
pub wrong_later : (place before m : ℕ) (bytes : List ℕ) → place < count_in bytes → m ≡ member_in place bytes → may_follow before m ≡ true →
    first_wrong (place + 1) m (left_at (place + 1) bytes) ≡ first_wrong place before (left_at place bytes)
wrong_later place before m bytes there is test =
    sym (ap (first_wrong place before) (left_more place bytes there ∙ ap (λ (k : ℕ). k ∷ left_at (place + 1) bytes) (sym is))
    ∙ cond-true (may_follow before m) (first_wrong (place + 1) m (left_at (place + 1) bytes)) (Some place) test)

-- and another one is the first that is wrong
pub wrong_here : (place before m : ℕ) (bytes : List ℕ) → place < count_in bytes → m ≡ member_in place bytes → may_follow before m ≡ false →
    first_wrong place before (left_at place bytes) ≡ Some place
wrong_here place before m bytes there is test =
    ap (first_wrong place before) (left_more place bytes there ∙ ap (λ (k : ℕ). k ∷ left_at (place + 1) bytes) (sym is))
    ∙ cond-false (may_follow before m) (first_wrong (place + 1) m (left_at (place + 1) bytes)) (Some place) test

on_here : (same rest : Bool) → same ≡ true → (same || rest) ≡ true
on_here true rest e = refl
on_here false rest e = cc

on_later : (same rest : Bool) → same ≡ false → (same || rest) ≡ rest
on_later true rest e = cc
on_later false rest e = refl

pub named_here : (number place : ℕ) (bytes : List ℕ) → place < count_in bytes → number ≡ member_in place bytes → is_on (left_at place bytes) number ≡ true
named_here number place bytes there is =
    ap (λ (ms : List ℕ). is_on ms number) (left_more place bytes there)
    ∙ on_here (number == member_in place bytes) (is_on (left_at (place + 1) bytes) number) (same number (member_in place bytes) is)
  where
    same : (a b : ℕ) → a ≡ b → (a == b) ≡ true
    same a b e = grind (arith, nat_tests)

pub named_later : (number place : ℕ) (bytes : List ℕ) → place < count_in bytes → number ≢ member_in place bytes →
    is_on (left_at (place + 1) bytes) number ≡ is_on (left_at place bytes) number
named_later number place bytes there other =
    sym (ap (λ (ms : List ℕ). is_on ms number) (left_more place bytes there)
    ∙ on_later (number == member_in place bytes) (is_on (left_at (place + 1) bytes) number) (differs number (member_in place bytes) other))
  where
    differs : (a b : ℕ) → a ≢ b → (a == b) ≡ false
    differs a b e = grind (arith, nat_tests)

-- ---- strangers among the members

module _ (members : List ℕ) where
  abbrev pub first_stranger : List ℕ → Option ℕ
  first_stranger ms = find (λ m. not (is_on members m)) ms

  at_first : (place m : ℕ) (bytes : List ℕ) → place < count_in bytes → m ≡ member_in place bytes
      → first_stranger (left_at place bytes) ≡ first_stranger (m ∷ left_at (place + 1) bytes)
  at_first place m bytes there is =
      ap first_stranger (left_more place bytes there ∙ ap (λ (k : ℕ). k ∷ left_at (place + 1) bytes) (sym is))

  pub stranger_here : (place m : ℕ) (bytes : List ℕ) → place < count_in bytes → m ≡ member_in place bytes
      → is_on members m ≡ false → first_stranger (left_at place bytes) ≡ Some m
  stranger_here place m bytes there is off =
      at_first place m bytes there is
      ∙ cond-true (not (is_on members m)) (Some m) (first_stranger (left_at (place + 1) bytes)) (ap not off)

  pub stranger_later : (place m : ℕ) (bytes : List ℕ) → place < count_in bytes → m ≡ member_in place bytes
      → is_on members m ≡ true → first_stranger (left_at (place + 1) bytes) ≡ first_stranger (left_at place bytes)
  stranger_later place m bytes there is on =
      sym (at_first place m bytes there is
      ∙ cond-false (not (is_on members m)) (Some m) (first_stranger (left_at (place + 1) bytes)) (ap not on))
