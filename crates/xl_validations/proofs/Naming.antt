-- The ledgers that validations name, before and after one more is known.
use Rattle.std.proofs.Common.{◌≡◌, ℕ, ◌+◌, ◌<◌, ◌==◌, ◌&&◌, Bool, true, false, cond, List, [], ◌∷◌, ◌++◌, length, take, Option, Some, None, refl, sym, ap, subst, ◌∙◌, arith, inl, inr}
use Rattle.std.specs.Option.{option_and_then}
use Rattle.std.proofs.lemmas.Bool.{cases_lt, and_parts, eqb-true, eq-eqb, cond-true, cond-false}
use Rattle.std.proofs.lemmas.Bool.Decides.{nat_tests}
use Rattle.std.proofs.lemmas.List.{length-take, take_more, take_all}
use Rattle.std.proofs.lemmas.List.Quantifiers.{position-Some}
use Rattle.xl_base.specs.declared.ids.LedgerId.{LedgerId}
use Rattle.xl_wire.specs.declared.validation.Validation.{Validation}
use Rattle.xl_ledger.specs.declared.header.Header.{Header}
use Rattle.xl_base.specs.Ids.{same_id}
use Rattle.xl_ledger.specs.Headers.{header_id}
use Rattle.xl_ledger.specs.Chains.{root_id, root_header, ids, header_at, id_at, seq_at, place_of, Joins, AreLedgers}
use Rattle.xl_ledger.proofs.Places.{position_is, position_none, none_at}
use Rattle.xl_ledger.proofs.ChainLaws.{length-ids, id_at-take, header_at-take, id_of_added, earlier_differs}
use Rattle.xl_ledger.proofs.TableLaws.{same_is, same_self}
use Rattle.xl_validations.specs.Rows.{is_of}
use Rattle.xl_validations.specs.Votes.{if_of_sequence, ledger_named}
use Rattle.xl_validations.specs.Tallies.{IsNewest}

left_false : (a b : Bool) → b ≡ true → (a && b) ≡ false → a ≡ false
left_false true b t e = absurd cc
left_false false b t e = refl

flip : (a b : ℕ) → (a == b) ≡ false → (b == a) ≡ false
flip a b e = grind (arith, nat_tests)

module _ (ls : List Header) (ok : AreLedgers ls) where
  -- a known ledger is found by its id
  pub found : (place : ℕ) → place < length ls → place_of ls (id_at ls place) ≡ Some place
  found place within =
      position_is (same_id (id_at ls place)) (ids ls) place root_id (omega (arith, length-ids ls)) (same_self (id_at ls place) (id_at ls place) refl)
      (λ k lt. earlier_differs ls ok k place lt within)

-- the ledgers before the newest, and the newest
pub split : (ls : List Header) (ledger : ℕ) → IsNewest ls ledger → ls ≡ take ledger ls ++ header_at ls ledger ∷ []
split ls ledger newest = sym (take_all (ledger + 1) ls (omega (arith, newest.last))) ∙ take_more ls ledger root_header (omega (arith, newest.last))

module _ (ls : List Header) (ok : AreLedgers ls) (ledger : ℕ) (newest : IsNewest ls ledger) where
  abbrev known : List Header
  known = take ledger ls

  within : ledger < length ls
  within = omega (arith, newest.last)

  pub joins : Joins known (header_at ls ledger)
  joins = ok.each ledger newest.added within

  own : id_at ls ledger ≡ header_id (header_at ls ledger)
  own = id_of_added ls ledger newest.added within

  size : length known ≡ ledger
  size = length-take ledger ls ∙ omega (arith, newest.last)

  unknown : place_of known (id_at ls ledger) ≡ None
  unknown = ap (place_of known) own ∙ joins.fresh

  -- a known id keeps its ledger, and another but the newest's is unknown still
  kept : (id : LedgerId) (p : ℕ) → place_of known id ≡ Some p → (place_of ls id ≡ Some p) × (seq_at ls p ≡ seq_at known p)
  kept id p e =
      let at = position-Some (same_id id) (ids known) p root_id e in
      let lt : p < ledger = omega (arith, at.0, length-ids known, size) in (
        position_is (same_id id) (ids ls) p root_id (omega (arith, length-ids ls, within)) (ap (same_id id) (sym (id_at-take ls ledger p lt)) ∙ at.1)
            (λ k l. ap (same_id id) (sym (id_at-take ls ledger k (omega arith))) ∙ at.2 k l),
        sym (ap (λ (h : Header). h.seq) (header_at-take ls ledger p lt)),
      )

  still : (id : LedgerId) → place_of known id ≡ None → same_id id (id_at ls ledger) ≡ false → place_of ls id ≡ None
  still id none other = position_none (same_id id) (ids ls) root_id (λ k lt. elim (cases_lt k ledger) [
    | inl less ↦ ap (same_id id) (sym (id_at-take ls ledger k less)) ∙ none_at (same_id id) (ids known) root_id none k (omega (arith, length-ids known, size))
    | inr ge ↦ let is : ledger ≡ k = omega (arith, lt, length-ids ls, newest.last) in subst (λ (n : ℕ). same_id id (id_at ls n) ≡ false) is other
  ])

  -- a validation of the newest ledger waited for it
  pub waited : (o : Option Validation) → is_of (seq_at ls ledger) (id_at ls ledger) o ≡ true → (ledger_named known o ≡ None) × (ledger_named ls o ≡ Some ledger)
  waited None e = absurd cc
  waited (Some v) e =
      let both = and_parts (v.seq == seq_at ls ledger) (same_id v.id (id_at ls ledger)) e in
      let id : v.id ≡ id_at ls ledger = same_is v.id (id_at ls ledger) both.1 in (
        ap (option_and_then (if_of_sequence known v.seq)) (ap (place_of known) id ∙ unknown),
        ap (option_and_then (if_of_sequence ls v.seq)) (ap (place_of ls) id ∙ found ls ok ledger within)
            ∙ cond-true (seq_at ls ledger == v.seq) (Some ledger) None (eq-eqb (seq_at ls ledger) v.seq (sym (eqb-true v.seq (seq_at ls ledger) both.0))),
      )

  -- and no other did
  pub others_stay : (o : Option Validation) → is_of (seq_at ls ledger) (id_at ls ledger) o ≡ false → ledger_named known o ≡ ledger_named ls o
  others_stay None e = refl
  others_stay (Some v) e = by_place (place_of known v.id) refl
    where
      by_id : (b : Bool) → same_id v.id (id_at ls ledger) ≡ b → place_of known v.id ≡ None → None ≡ option_and_then (if_of_sequence ls v.seq) (place_of ls v.id)
      by_id true same none =
          let id : v.id ≡ id_at ls ledger = same_is v.id (id_at ls ledger) same in
          let other = flip v.seq (seq_at ls ledger) (left_false (v.seq == seq_at ls ledger) (same_id v.id (id_at ls ledger)) same e) in
          sym (ap (option_and_then (if_of_sequence ls v.seq)) (ap (place_of ls) id ∙ found ls ok ledger within) ∙ cond-false (seq_at ls ledger == v.seq) (Some ledger) None other)
      by_id false other none = sym (ap (option_and_then (if_of_sequence ls v.seq)) (still v.id none other))

      by_place : (o : Option ℕ) → place_of known v.id ≡ o → option_and_then (if_of_sequence known v.seq) (place_of known v.id) ≡ option_and_then (if_of_sequence ls v.seq) (place_of ls v.id)
      by_place None none = ap (option_and_then (if_of_sequence known v.seq)) none ∙ by_id (same_id v.id (id_at ls ledger)) refl none
      by_place (Some p) is =
          let stays = kept v.id p is in
          ap (option_and_then (if_of_sequence known v.seq)) is
          ∙ ap (λ (s : ℕ). cond (s == v.seq) (Some p) None) (sym stays.1)
          ∙ sym (ap (option_and_then (if_of_sequence ls v.seq)) stays.0)

  -- the same, by what was read of the newest ledger
  pub waited_if : (seq : ℕ) (id : LedgerId) (b : Bool) (o : Option Validation) → seq ≡ seq_at ls ledger → id ≡ id_at ls ledger → b ≡ is_of seq id o → b ≡ true → (ledger_named known o ≡ None) × (ledger_named ls o ≡ Some ledger)
  waited_if seq id b o seq_is id_is test e = waited o (sym (test ∙ ap (λ (s : ℕ). is_of s id o) seq_is ∙ ap (λ (x : LedgerId). is_of (seq_at ls ledger) x o) id_is) ∙ e)

  pub others_stay_if : (seq : ℕ) (id : LedgerId) (b : Bool) (o : Option Validation) → seq ≡ seq_at ls ledger → id ≡ id_at ls ledger → b ≡ is_of seq id o → b ≡ false → ledger_named known o ≡ ledger_named ls o
  others_stay_if seq id b o seq_is id_is test e = others_stay o (sym (test ∙ ap (λ (s : ℕ). is_of s id o) seq_is ∙ ap (λ (x : LedgerId). is_of (seq_at ls ledger) x o) id_is) ∙ e)
