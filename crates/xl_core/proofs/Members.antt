-- Rows of members.
use Rattle.std.proofs.Common.{◌≡◌, ℕ, Bool, false, cond, List, [], ◌∷◌, refl, arith, ap, sym, ◌∙◌, Some, None}
use Rattle.std.specs.Prelude.{◌==◌, ◌||◌, map, is_some}
use Rattle.std.specs.Option.{option_and_then, is_none}
use Rattle.std.proofs.lemmas.Bool.{cond_both, cond-true, cond-false, eqb-true, eqb-false, eq-eqb, or_left, false_from_ne_true}
use Rattle.xl_lists.specs.Lists.{is_on}
use Rattle.xl_wire.specs.declared.validation.Validation.{Validation}
use Rattle.xl_validations.specs.declared.row.Row.{Row}
use Rattle.xl_validations.specs.declared.refusal.ValRefusal.{ValRefusal}
use Rattle.xl_validations.specs.Rows.{row_of, refusal, refusal_of, with_validation, at_member, empty_row}
use Rattle.xl_core.specs.Node.{take}

or_of_false : (a b : Bool) → a ≡ false → (a || b) ≡ b
or_of_false a b e = grind arith

-- a member has a row exactly if it is on the list
pub row_if_on : (rows : List Row) (from : ℕ) → is_on (map (λ row. row.member) rows) from ≡ is_some (row_of rows from)
row_if_on [] from = refl
row_if_on (row ∷ rows) from =
    let rest : Bool = is_on (map (λ r. r.member) rows) from in
    cond_both (row.member == from) (Some row) (row_of rows from) (λ o. (from == row.member || rest) ≡ is_some o)
    (λ same. or_left (from == row.member) rest (eq-eqb from row.member (sym (eqb-true row.member from same))))
    (λ other. or_of_false (from == row.member) rest (false_from_ne_true (from == row.member) (λ e. eqb-false row.member from other (sym (eqb-true from row.member e)))) ∙ row_if_on rows from)

cons_same : {X : Type 0} {x y : X} {xs ys : List X} → x ≡ y → xs ≡ ys → x ∷ xs ≡ y ∷ ys
cons_same p q = cc

-- a row that changes stays its member's
pub members_stay : (from : ℕ) (f : Row → Row) → ((row : Row) → (f row).member ≡ row.member) → (rows : List Row) →
    map (λ row. row.member) (at_member from f rows) ≡ map (λ row. row.member) rows
members_stay from f same [] = refl
members_stay from f same (row ∷ rows) =
    cond_both (row.member == from) (f row ∷ rows) (row ∷ at_member from f rows) (λ rs. map (λ r. r.member) rs ≡ map (λ r. r.member) (row ∷ rows))
    (λ _. cons_same (same row) refl) (λ _. cons_same refl (members_stay from f same rows))

-- the rows at the opening are the members'
pub members_opened : (members : List ℕ) → map (λ row. row.member) (map empty_row members) ≡ members
members_opened [] = refl
members_opened (m ∷ ms) = cons_same refl (members_opened ms)

-- if nobody has the number, no row changes
pub nobody_changes : (from : ℕ) (f : Row → Row) (rows : List Row) → row_of rows from ≡ None → at_member from f rows ≡ rows
nobody_changes from f [] none = refl
nobody_changes from f (row ∷ rows) none =
    cond_both (row.member == from) (Some row) (row_of rows from) (λ o. o ≡ None → cond (row.member == from) (f row ∷ rows) (row ∷ at_member from f rows) ≡ row ∷ rows)
    (λ _ e. cc)
    (λ other e. cond-false _ (f row ∷ rows) _ other ∙ cons_same refl (nobody_changes from f rows e))
    none

-- a row that refuses a validation stays
pub refused_stays : (from now : ℕ) (v : Validation) (why : ValRefusal) (rows : List Row) → refusal_of rows from now v ≡ Some why → at_member from (take now v) rows ≡ rows
refused_stays from now v why [] refused = refl
refused_stays from now v why (row ∷ rows) refused =
    cond_both (row.member == from) (Some row) (row_of rows from)
    (λ o. option_and_then (λ r. refusal r now v) o ≡ Some why → cond (row.member == from) (take now v row ∷ rows) (row ∷ at_member from (take now v) rows) ≡ row ∷ rows)
    (λ same e. cond-true _ (take now v row ∷ rows) _ same ∙ cons_same (cond-false _ (with_validation v row) row (ap is_none e)) refl)
    (λ other e. cond-false _ (take now v row ∷ rows) _ other ∙ cons_same refl (refused_stays from now v why rows e))
    refused

-- a row that doesn't refuse it takes it
pub taken_changes : (from now : ℕ) (v : Validation) (rows : List Row) → refusal_of rows from now v ≡ None →
    at_member from (take now v) rows ≡ at_member from (with_validation v) rows
taken_changes from now v [] none = refl
taken_changes from now v (row ∷ rows) none =
    cond_both (row.member == from) (Some row) (row_of rows from)
    (λ o. option_and_then (λ r. refusal r now v) o ≡ None → cond (row.member == from) (take now v row ∷ rows) (row ∷ at_member from (take now v) rows) ≡ cond (row.member == from) (with_validation v row ∷ rows) (row ∷ at_member from (with_validation v) rows))
    (λ same e. cond-true _ (take now v row ∷ rows) _ same ∙ cons_same (cond-true _ (with_validation v row) row (ap is_none e)) refl ∙ sym (cond-true _ (with_validation v row ∷ rows) _ same))
    (λ other e. cond-false _ (take now v row ∷ rows) _ other ∙ cons_same refl (taken_changes from now v rows e) ∙ sym (cond-false _ (with_validation v row ∷ rows) _ other))
    none
