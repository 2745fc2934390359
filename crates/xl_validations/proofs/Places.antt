-- A member's row is the first one of its number, and stands at a place.
use Rattle.std.proofs.Common.{◌≡◌, ℕ, zero, suc, ◌<◌, true, false, List, [], ◌∷◌, length, get_or, set, arith, ap, sym, ◌∙◌, Some, None}
use Rattle.std.specs.Prelude.{◌==◌, position, is_some, nat_lt}
use Rattle.std.specs.List.{position_or_len}
use Rattle.std.proofs.lemmas.List.Folds.{find_at}
use Rattle.std.proofs.lemmas.Option.{slice_get_past, slice_get-get_or}
use Rattle.std.proofs.lemmas.List.Quantifiers.{position-Some}
use Rattle.std.proofs.lemmas.Bool.{cond-true, cond-false, cond_both, ltb-false, ltb-true}
use Rattle.xl_validations.specs.declared.row.Row.{Row}
use Rattle.xl_validations.specs.Rows.{empty_row, row_of, at_member}

-- the row at the first place of the number
row_there : (member : ℕ) (rows : List Row) (k : ℕ) (d : Row) → k < length rows → ((get_or rows k d).member == member) ≡ true → ((j : ℕ) → j < k → ((get_or rows j d).member == member) ≡ false) →
    row_of rows member ≡ Some (get_or rows k d)
row_there member [] k d k_in is before = absurd (omega arith)
row_there member (row ∷ rows) zero d k_in is before = cond-true _ (Some row) _ is
row_there member (row ∷ rows) (suc k) d k_in is before =
    cond-false _ (Some row) _ (before 0 (omega arith)) ∙ row_there member rows k d (omega arith) is (λ j j_in. before (suc j) (omega arith))

-- the rows with the one there changed
change_there : (member : ℕ) (f : Row → Row) (rows : List Row) (k : ℕ) (d : Row) → k < length rows → ((get_or rows k d).member == member) ≡ true → ((j : ℕ) → j < k → ((get_or rows j d).member == member) ≡ false) →
    set rows k (f (get_or rows k d)) ≡ at_member member f rows
change_there member f [] k d k_in is before = absurd (omega arith)
change_there member f (row ∷ rows) zero d k_in is before = sym (cond-true _ (f row ∷ rows) _ is)
change_there member f (row ∷ rows) (suc k) d k_in is before =
    ap (λ rest. row ∷ rest) (change_there member f rows k d (omega arith) is (λ j j_in. before (suc j) (omega arith)))
    ∙ sym (cond-false _ (f row ∷ rows) _ (before 0 (omega arith)))

-- the row of the member is the one at its place
pub row_at_place : (member : ℕ) (rows : List Row) (k : ℕ) (row : Row) → position (λ r. r.member == member) rows ≡ Some k → row ≡ get_or rows k row → row_of rows member ≡ Some row
row_at_place member rows k row found is =
    let at = position-Some (λ r. r.member == member) rows k row found in row_there member rows k row at.0 at.1 (λ j h. at.2 j h) ∙ ap (λ r. Some r) (sym is)

-- so a change at its place is the member's
pub change_at_place : (member : ℕ) (f : Row → Row) (rows : List Row) (k : ℕ) (row : Row) → position (λ r. r.member == member) rows ≡ Some k → row ≡ get_or rows k row →
    set rows k (f row) ≡ at_member member f rows
change_at_place member f rows k row found is =
    let at = position-Some (λ r. r.member == member) rows k row found in
    ap (λ r. set rows k (f r)) is ∙ change_there member f rows k row at.0 at.1 (λ j h. at.2 j h)

-- a member has a place exactly if it has a row
pub place_if_row : (member : ℕ) (rows : List Row) → is_some (position (λ row. row.member == member) rows) ≡ is_some (row_of rows member)
place_if_row member rows =
    let n : ℕ = position_or_len (λ row. row.member == member) rows in
    cond_both (nat_lt n (length rows)) (Some n) None (λ o. is_some o ≡ is_some (row_of rows member))
    (λ inside. sym (ap is_some (find_at (λ row. row.member == member) rows ∙ slice_get-get_or rows n (empty_row member) (ltb-true n (length rows) inside))))
    (λ past. sym (ap is_some (find_at (λ row. row.member == member) rows ∙ slice_get_past rows n (ltb-false n (length rows) past))))
