-- Rows of another list: the votes that are left of the former ones are those of the new rows.
use Rattle.std.proofs.Common.{◌≡◌, ℕ, ◌+◌, ◌≤◌, ◌==◌, ◌||◌, Bool, true, false, cond, List, [], ◌∷◌, length, Option, Some, None, refl, sym, ap, subst, ◌∙◌, arith, inl, inr}
use Rattle.std.specs.Prelude.{nat_eq, count_by, unwrap_or}
use Rattle.std.specs.List.{IsDistinct, AllByRecursion}
use Rattle.std.specs.Option.{option_and_then}
use Rattle.std.proofs.lemmas.Bool.{cases_Bool, cond_both, cond-true, cond-false, eqb-true}
use Rattle.std.proofs.lemmas.Bool.Decides.{nat_tests}
use Rattle.xl_lists.specs.Lists.{TrustedList, IsValid, is_on}
use Rattle.xl_wire.specs.declared.validation.Validation.{Validation}
use Rattle.xl_ledger.specs.declared.header.Header.{Header}
use Rattle.xl_ledger.specs.declared.vote.Vote.{Vote}
use Rattle.xl_ledger.specs.Chains.{AreLedgers}
use Rattle.xl_validations.specs.declared.row.Row.{Row}
use Rattle.xl_validations.specs.Rows.{empty_row, row_of, current_of, row_for, relisted}
use Rattle.xl_validations.specs.Votes.{ledger_named, votes_of}
use Rattle.xl_validations.specs.Tallies.{IsTally, kept_on}
use Rattle.xl_validations.proofs.Splitting.{members, own, votes_by, count-own}
use Rattle.xl_validations.proofs.Turning.{HasTurned, all_turned, length-members}

-- THE MEMBERS OF THE NEW ROWS

row_is_its : (rows : List Row) (m : ℕ) (row : Row) → row_of rows m ≡ Some row → row.member ≡ m
row_is_its [] m row e = absurd cc
row_is_its (r ∷ rows) m row e =
    cond_both (r.member == m) (Some r) (row_of rows m) (λ o. o ≡ Some row → row.member ≡ m)
    (λ same is. sym (ap (λ (o : Option Row). (unwrap_or o r).member) is) ∙ eqb-true r.member m same)
    (λ _ is. row_is_its rows m row is)
    e

pub its_member : (rows : List Row) (m : ℕ) → (row_for rows m).member ≡ m
its_member rows m = by (row_of rows m) refl
  where
    by : (o : Option Row) → row_of rows m ≡ o → (unwrap_or o (empty_row m)).member ≡ m
    by None is = refl
    by (Some row) is = row_is_its rows m row is

-- what a new row holds is what the member's former row held
pub its_current : (rows : List Row) (m : ℕ) → (row_for rows m).current ≡ current_of rows m
its_current rows m = by (row_of rows m)
  where
    by : (o : Option Row) → (unwrap_or o (empty_row m)).current ≡ option_and_then (λ row. row.current) o
    by None = refl
    by (Some row) = refl

pub members_relisted : (ms : List ℕ) (rows : List Row) → members (relisted ms rows) ≡ ms
members_relisted [] rows = refl
members_relisted (m ∷ ms) rows = ap (λ (k : ℕ). k ∷ members (relisted ms rows)) (its_member rows m) ∙ ap (λ (ks : List ℕ). m ∷ ks) (members_relisted ms rows)

-- THE VOTES OF THE NEW ROWS

flipped : (a b : ℕ) → nat_eq a b ≡ false → (b == a) ≡ false
flipped a b e = grind (arith, nat_tests)

-- another row of a member doesn't stand behind its own
none_behind : (m : ℕ) (rows : List Row) → AllByRecursion (λ k. nat_eq m k ≡ false) (members rows) → row_of rows m ≡ None
none_behind m [] all = refl
none_behind m (r ∷ rows) all = cond-false (r.member == m) (Some r) (row_of rows m) (flipped m r.member all.0) ∙ none_behind m rows all.1

module _ (ls : List Header) (p : Vote → Bool) where
  -- how many votes of a kind a member has by a validation
  counted : ℕ → Option Validation → ℕ
  counted m o = count_by p (own m (ledger_named ls o))

  left_of : List ℕ → List Row → ℕ
  left_of ms rows = count_by p (votes_by (λ row. ledger_named ls (kept_on ms row)) rows)

  left-cons : (ms : List ℕ) (r : Row) (rows : List Row) → left_of ms (r ∷ rows) ≡ counted r.member (kept_on ms r) + left_of ms rows
  unfolding left_of counted
  left-cons ms r rows = count-own p (λ row. ledger_named ls (kept_on ms row)) r rows

  none-counted : (m : ℕ) → counted m None ≡ 0
  unfolding counted
  none-counted m = refl

  on : (ms : List ℕ) (r : Row) → is_on ms r.member ≡ true → kept_on ms r ≡ r.current
  on ms r is = cond-true (is_on ms r.member) r.current None is

  off : (ms : List ℕ) (r : Row) → is_on ms r.member ≡ false → kept_on ms r ≡ None
  off ms r is = cond-false (is_on ms r.member) r.current None is

  -- a member more on the list keeps its vote
  one_more : (m : ℕ) (ms : List ℕ) (rows : List Row) → is_on ms m ≡ false → IsDistinct nat_eq (members rows) → left_of (m ∷ ms) rows ≡ counted m (current_of rows m) + left_of ms rows
  unfolding left_of counted IsDistinct
  one_more m ms [] apart distinct = refl
  one_more m ms (r ∷ rows) apart distinct =
      let rest = one_more m ms rows apart distinct.1 in
      elim (cases_Bool (r.member == m)) [
        | inl same ↦
            let its : r.member ≡ m = eqb-true r.member m same in
            let first : kept_on (m ∷ ms) r ≡ r.current = on (m ∷ ms) r (ap (λ (b : Bool). b || is_on ms r.member) same) in
            let before : kept_on ms r ≡ None = off ms r (ap (is_on ms) its ∙ apart) in
            let found : current_of (r ∷ rows) m ≡ r.current = ap (λ (o : Option Row). option_and_then (λ row. row.current) o) (cond-true (r.member == m) (Some r) (row_of rows m) same) in
            let nobody : current_of rows m ≡ None = ap (λ (o : Option Row). option_and_then (λ row. row.current) o) (subst (λ (k : ℕ). row_of rows k ≡ None) its (none_behind r.member rows distinct.0)) in
            omega (
              arith,
              rest,
              left-cons (m ∷ ms) r rows,
              left-cons ms r rows,
              ap (counted r.member) first,
              ap (counted r.member) before,
              none-counted r.member,
              ap (counted m) found,
              ap (counted m) nobody,
              none-counted m,
              ap (λ (k : ℕ). counted k r.current) its,
            )
        | inr other ↦
            let same : kept_on (m ∷ ms) r ≡ kept_on ms r = ap (λ (b : Bool). cond (b || is_on ms r.member) r.current None) other in
            let found : current_of (r ∷ rows) m ≡ current_of rows m = ap (λ (o : Option Row). option_and_then (λ row. row.current) o) (cond-false (r.member == m) (Some r) (row_of rows m) other) in
            omega (arith, rest, left-cons (m ∷ ms) r rows, left-cons ms r rows, ap (counted r.member) same, ap (counted m) found)
      ]

  nobody_left : (rows : List Row) → left_of [] rows ≡ 0
  unfolding left_of counted
  nobody_left [] = refl
  nobody_left (r ∷ rows) = omega (arith, left-cons [] r rows, none-counted r.member, nobody_left rows)

  apart_from : (m : ℕ) (ms : List ℕ) → AllByRecursion (λ k. nat_eq m k ≡ false) ms → is_on ms m ≡ false
  apart_from m [] all = refl
  apart_from m (k ∷ ms) all = ap (λ (b : Bool). b || is_on ms m) (unflipped m k all.0) ∙ apart_from m ms all.1
    where
      unflipped : (a b : ℕ) → nat_eq a b ≡ false → (a == b) ≡ false
      unflipped a b e = grind (arith, nat_tests)

  votes-relisted : (ms : List ℕ) (rows : List Row) → IsDistinct nat_eq ms → IsDistinct nat_eq (members rows) → left_of ms rows ≡ count_by p (votes_of ls (relisted ms rows))
  unfolding counted IsDistinct
  votes-relisted [] rows once distinct = nobody_left rows
  votes-relisted (m ∷ ms) rows once distinct =
      let first : count_by p (votes_of ls (relisted (m ∷ ms) rows)) ≡ counted (row_for rows m).member (row_for rows m).current + count_by p (votes_of ls (relisted ms rows)) =
      count-own p (λ row. ledger_named ls row.current) (row_for rows m) (relisted ms rows) in
      omega (
        arith,
        first,
        one_more m ms rows (apart_from m ms once.0) distinct,
        votes-relisted ms rows once.1 distinct,
        ap (λ (k : ℕ). counted k (row_for rows m).current) (its_member rows m),
        ap (counted m) (its_current rows m),
      )

  pub same_votes : (ms : List ℕ) (rows : List Row) → IsDistinct nat_eq ms → IsDistinct nat_eq (members rows) → count_by p (votes_by (λ row. ledger_named ls (kept_on ms row)) rows) ≡ count_by p (votes_of ls (relisted ms rows))
  unfolding left_of
  same_votes ms rows once distinct = votes-relisted ms rows once distinct

-- once the others' votes are taken back, the branch is a tally of the new rows
pub tally_relisted : (GoesWith : List Header → Type 0) (ls : List Header) (list : TrustedList) (rows : List Row) (i : ℕ) (votes : List Vote) (room : ℕ)
    → AreLedgers ls → IsValid list → HasTurned (GoesWith ls) (λ row. ledger_named ls (kept_on list.members row)) (λ row. ledger_named ls row.current) rows i votes room → length rows ≤ i
    → IsTally GoesWith ls (relisted list.members rows) votes room
tally_relisted GoesWith ls list rows i votes room ok valid h le = record {
  are = ok;
  goes = h.goes;
  same = λ p. all_turned (GoesWith ls) (λ row. ledger_named ls (kept_on list.members row)) (λ row. ledger_named ls row.current) rows i votes room h le p ∙ same_votes ls p list.members rows valid.once h.distinct;
  distinct = subst (IsDistinct nat_eq) (sym (members_relisted list.members rows)) valid.once;
  fits = omega (arith, h.wide, valid.at_most, ap length (members_relisted list.members rows), length-members (relisted list.members rows));
  wide = h.wide;
}
