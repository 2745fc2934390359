-- A tally at its opening, and as a member's validation is taken.
use Rattle.std.proofs.Common.{◌≡◌, ℕ, ◌≤◌, Bool, List, [], ◌∷◌, ◌++◌, length, map, Option, Some, None, refl, sym, ap, subst, ◌∙◌, arith}
use Rattle.std.specs.Prelude.{nat_eq, count_by, IsSome}
use Rattle.std.specs.List.{IsDistinct}
use Rattle.std.specs.Option.{option_and_then}
use Rattle.std.proofs.lemmas.List.{length-append, append_assoc}
use Rattle.std.proofs.lemmas.List.Elements.{filter_map-append}
use Rattle.xl_lists.specs.Lists.{TrustedList, IsValid}
use Rattle.xl_wire.specs.declared.validation.Validation.{Validation}
use Rattle.xl_ledger.specs.declared.header.Header.{Header}
use Rattle.xl_ledger.specs.declared.vote.Vote.{Vote}
use Rattle.xl_ledger.specs.Chains.{AreLedgers}
use Rattle.xl_validations.specs.declared.row.Row.{Row}
use Rattle.xl_validations.specs.Rows.{empty_row, row_of, current_of, at_member, with_validation}
use Rattle.xl_validations.specs.Votes.{cast, ledger_named, votes_of}
use Rattle.xl_validations.specs.Tallies.{IsTally, StandsBeside}
use Rattle.xl_validations.proofs.Splitting.{members, votes_by, is_at, stands_beside, stood_beside}

no_votes : (ls : List Header) (ms : List ℕ) → votes_of ls (map empty_row ms) ≡ []
no_votes ls [] = refl
no_votes ls (m ∷ ms) = no_votes ls ms

empty_members : (ms : List ℕ) → members (map empty_row ms) ≡ ms
empty_members [] = refl
empty_members (m ∷ ms) = ap (λ (ns : List ℕ). m ∷ ns) (empty_members ms)

length_empty : (ms : List ℕ) → length (map empty_row ms) ≡ length ms
length_empty [] = refl
length_empty (m ∷ ms) = let more = length_empty ms in omega (arith, more)

pub tally_opened : (GoesWith : List Header → Type 0) (list : TrustedList) (rows : List Row) (votes : List Vote) (room : ℕ) → IsValid list → rows ≡ map empty_row list.members → votes ≡ [] → room ≡ 64
    → ((ls : List Header) → AreLedgers ls → GoesWith ls) → (ls : List Header) → AreLedgers ls → IsTally GoesWith ls rows votes room
tally_opened GoesWith list rows votes room valid rows_are none room_is goes = λ ls ok. record {
  are = ok;
  goes = goes ls ok;
  same = λ p. ap (count_by p) none ∙ sym (ap (count_by p) (ap (votes_of ls) rows_are ∙ no_votes ls list.members));
  distinct = subst (IsDistinct nat_eq) (sym (ap members rows_are ∙ empty_members list.members)) valid.once;
  fits = omega (arith, ap length rows_are, length_empty list.members, room_is, valid.at_most);
  wide = omega (arith, room_is);
}

-- ---- a validation is taken

abbrev rule : List Header → Row → Option ℕ
rule ls row = ledger_named ls row.current

pub record Takes (GoesWith : List Header → Type 0) (ls : List Header) (rows : List Row) (votes : List Vote) (room from : ℕ) (before : Option Validation) (v : Validation) : Type 1 where
  pub others : List Vote
  pub beside : StandsBeside votes others from (ledger_named ls before) room
  pub taken : (GoesWith' : List Header → Type 0) (after : List Vote) (room' : ℕ) → GoesWith' ls → room' ≡ room → StandsBeside after others from (ledger_named ls (Some v)) room'
      → IsTally GoesWith' ls (at_member from (with_validation v) rows) after room'

members_at : (front : List Row) (a b : Row) (back : List Row) → a.member ≡ b.member → members (front ++ a ∷ back) ≡ members (front ++ b ∷ back)
members_at [] a b back same = ap (λ (m : ℕ). m ∷ members back) same
members_at (r ∷ front) a b back same = ap (λ (ms : List ℕ). r.member ∷ ms) (members_at front a b back same)

length_at : (front : List Row) (a b : Row) (back : List Row) → length (front ++ a ∷ back) ≡ length (front ++ b ∷ back)
length_at front a b back = omega (arith, length-append front (a ∷ back), length-append front (b ∷ back))

module _ (GoesWith : List Header → Type 0) (ls : List Header) (rows : List Row) (votes : List Vote) (room : ℕ) (tally : IsTally GoesWith ls rows votes room) (from : ℕ) (v : Validation) where
  at_row : (before : Option Validation) (row : Row) → row_of rows from ≡ Some row → before ≡ row.current → Takes GoesWith ls rows votes room from before v
  at_row before row found is =
      let at = is_at rows from row found in
      let others = votes_by (rule ls) at.front ++ votes_by (rule ls) at.back in
      let named : ledger_named ls row.current ≡ ledger_named ls before = ap (ledger_named ls) (sym is) in
      let beside = stands_beside at.front row at.back (rule ls) (rule ls) votes room
      (subst (λ (rs : List Row). IsDistinct nat_eq (members rs)) at.is tally.distinct)
      (subst (λ (rs : List Row). length rs ≤ room) at.is tally.fits)
      (λ p. tally.same p ∙ ap (λ (rs : List Row). count_by p (votes_of ls rs)) at.is ∙ ap (count_by p) (filter_map-append (λ r. cast r.member (rule ls r)) at.front (row ∷ at.back))) in
      let new = with_validation v row in
      record {
        others = others;
        beside = subst (λ (m : ℕ). StandsBeside votes others m (ledger_named ls before) room) at.own (subst (λ (o : Option ℕ). StandsBeside votes others row.member o room) named beside);
        taken = λ Goes' after room' goes same_room s. record {
          are = tally.are;
          goes = goes;
          same = λ p.
              stood_beside at.front row at.back (rule ls) (rule ls) after room' new refl (subst (λ (m : ℕ). StandsBeside after others m (ledger_named ls (Some v)) room') (sym at.own) s) p
              ∙ joined p at.front new at.back
              ∙ ap (λ (rs : List Row). count_by p (votes_of ls rs)) (sym (at.changed (with_validation v)));
          distinct = subst (IsDistinct nat_eq) (sym (ap members (at.changed (with_validation v)) ∙ members_at at.front new row at.back refl)) (subst (λ (rs : List Row). IsDistinct nat_eq (members rs)) at.is tally.distinct);
          fits = omega (arith, same_room, tally.fits, ap length at.is, ap length (at.changed (with_validation v)), length_at at.front new row at.back);
          wide = omega (arith, same_room, tally.wide);
        };
      }
    where
      joined : (p : Vote → Bool) (front : List Row) (new : Row) (back : List Row) → count_by p (votes_by (rule ls) (front ++ new ∷ []) ++ votes_by (rule ls) back) ≡ count_by p (votes_of ls (front ++ new ∷ back))
      joined p front new back =
          ap (count_by p) (sym (filter_map-append (λ r. cast r.member (rule ls r)) (front ++ new ∷ []) back))
          ∙ ap (λ (rs : List Row). count_by p (votes_of ls rs)) (append_assoc front (new ∷ []) back)

  pub takes : (before : Option Validation) → IsSome (row_of rows from) → before ≡ current_of rows from → Takes GoesWith ls rows votes room from before v
  takes before listed is = by_row (row_of rows from) refl listed is
    where
      by_row : (o : Option Row) → row_of rows from ≡ o → IsSome o → before ≡ option_and_then (λ row. row.current) o → Takes GoesWith ls rows votes room from before v
      by_row None found listed is = absurd cc
      by_row (Some row) found listed is = at_row before row found is
