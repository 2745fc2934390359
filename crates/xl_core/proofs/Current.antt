-- The validations that rows hold are current in the second of the node's time.
use Rattle.std.proofs.Common.{◌≡◌, ℕ, Bool, true, false, cond, List, [], ◌∷◌, refl, ap, Option, Some, None}
use Rattle.std.specs.Prelude.{◌==◌, map, All, IfSome}
use Rattle.std.specs.Option.{option_and_then}
use Rattle.std.proofs.lemmas.Bool.{cond_both, cond-true}
use Rattle.std.proofs.lemmas.List.Elements.{All-head, All-tail, All-cons, All-nil}
use Rattle.xl_wire.specs.declared.validation.Validation.{Validation}
use Rattle.xl_validations.specs.declared.row.Row.{Row}
use Rattle.xl_validations.specs.declared.refusal.ValRefusal.TheVariants.{Stale}
use Rattle.xl_validations.specs.Rows.{is_current, unexpired, row_at, empty_row, row_of, refusal, refusal_by_current, refusal_of, with_validation, at_member}
use Rattle.xl_core.specs.Rest.{IsCurrent}

-- so they are once rows have expired
expired_current : (s : ℕ) (row : Row) (o : Option Validation) → row.current ≡ o → IfSome (unexpired s o) (λ v. is_current s v ≡ true)
expired_current s row None is = tt
expired_current s row (Some v) is = cond_both (is_current s v) (Some v) None (λ o. IfSome o (λ u. is_current s u ≡ true)) (λ e. e) (λ _. tt)

pub current_then : (s : ℕ) (rows : List Row) → All (IsCurrent s) (map (row_at s) rows)
current_then s [] = All-nil (IsCurrent s)
current_then s (row ∷ rows) = All-cons (IsCurrent s) (row_at s row) (map (row_at s) rows) (expired_current s row row.current refl) (current_then s rows)

cons_same : {X : Type 0} {x y : X} {xs ys : List X} → x ≡ y → xs ≡ ys → x ∷ xs ≡ y ∷ ys
cons_same p q = cc

kept_as : (s : ℕ) (o : Option Validation) → IfSome o (λ v. is_current s v ≡ true) → unexpired s o ≡ o
kept_as s None h = refl
kept_as s (Some v) h = cond-true (is_current s v) (Some v) None h

-- and then no row expires in that second
pub none_expire : (s : ℕ) (rows : List Row) → All (IsCurrent s) rows → map (row_at s) rows ≡ rows
none_expire s [] each = refl
none_expire s (row ∷ rows) each =
    cons_same
    (ap (λ (o : Option Validation). let r : Row = record { member = row.member; largest = row.largest; current = o } in r) (kept_as s row.current (All-head (IsCurrent s) row rows each)))
    (none_expire s rows (All-tail (IsCurrent s) row rows each))

-- rows at the opening hold nothing
pub opened_current : (s : ℕ) (members : List ℕ) → All (IsCurrent s) (map empty_row members)
opened_current s [] = All-nil (IsCurrent s)
opened_current s (m ∷ ms) = All-cons (IsCurrent s) (empty_row m) (map empty_row ms) tt (opened_current s ms)

-- what a row takes is current
unrefused_current : (row : Row) (s : ℕ) (v : Validation) → refusal row s v ≡ None → is_current s v ≡ true
unrefused_current row s v none =
    cond_both (is_current s v) (refusal_by_current row v row.current) (Some (Stale s v.signed)) (λ o. o ≡ None → is_current s v ≡ true) (λ is _. is) (λ _ e. cc) none

pub taken_current : (s from : ℕ) (v : Validation) (rows : List Row) → refusal_of rows from s v ≡ None → All (IsCurrent s) rows → All (IsCurrent s) (at_member from (with_validation v) rows)
taken_current s from v [] none each = each
taken_current s from v (row ∷ rows) none each =
    by_member (row.member == from) (λ e. taken_current s from v rows e (All-tail (IsCurrent s) row rows each)) none
  where
    by_member : (b : Bool) → (refusal_of rows from s v ≡ None → All (IsCurrent s) (at_member from (with_validation v) rows)) → option_and_then (λ r. refusal r s v) (cond b (Some row) (row_of rows from)) ≡ None →
        All (IsCurrent s) (cond b (with_validation v row ∷ rows) (row ∷ at_member from (with_validation v) rows))
    by_member true rest e = All-cons (IsCurrent s) (with_validation v row) rows (unrefused_current row s v e) (All-tail (IsCurrent s) row rows each)
    by_member false rest e = All-cons (IsCurrent s) row (at_member from (with_validation v) rows) (All-head (IsCurrent s) row rows each) (rest e)
