-- What a row's new validation does to the counts: it adds to its own ledger's alone.
use Rattle.std.proofs.Common.{◌≡◌, ℕ, ◌+◌, ◌≤◌, Bool, true, false, cond, List, [], ◌∷◌, refl, arith, ap, sym, ◌∙◌, Option, Some, None, subst}
use Rattle.std.specs.Prelude.{◌==◌, ◌&&◌, count_by, find, filter_map, IsSome, IfSome, is_some}
use Rattle.std.specs.List.{cons_option}
use Rattle.std.proofs.lemmas.Bool.{and_parts, cond_both, cond-true, cond-false, eqb-true}
use Rattle.xl_base.specs.declared.ids.LedgerId.{LedgerId}
use Rattle.xl_lists.proofs.Agreement.{same_id-true}
use Rattle.xl_lists.proofs.Counting.{count_by-cons}
use Rattle.xl_wire.specs.declared.validation.Validation.{Validation}
use Rattle.xl_validations.specs.declared.row.Row.{Row}
use Rattle.xl_validations.specs.Rows.{row_of, with_validation, at_member, is_full_of, count_full}

one_fewer : (a b : Bool) (n : ℕ) → a ≡ false → cond a 1 0 + n ≤ cond b 1 0 + n
one_fewer a b n e = omega (arith, cond-false {A = ℕ} a 1 0 e)

-- no other ledger is counted more often
pub count_of_others : (rows : List Row) (from : ℕ) (v : Validation) (seq : ℕ) (id : LedgerId) → is_full_of seq id (Some v) ≡ false →
    count_full seq id (at_member from (with_validation v) rows) ≤ count_full seq id rows
count_of_others [] from v seq id other = omega arith
count_of_others (row ∷ rows) from v seq id other =
    let full : Row → Bool = λ r. is_full_of seq id r.current in
    cond_both (row.member == from) (with_validation v row ∷ rows) (row ∷ at_member from (with_validation v) rows) (λ rs. count_by full rs ≤ count_by full (row ∷ rows))
    (λ _. rw (count_by-cons full (with_validation v row) rows, count_by-cons full row rows) (one_fewer (is_full_of seq id (Some v)) (is_full_of seq id row.current) (count_by full rows) other))
    (λ _. rw (count_by-cons full row (at_member from (with_validation v) rows), count_by-cons full row rows) (omega (arith, count_of_others rows from v seq id other)))

-- a full validation of a ledger names it
pub names_it : (v : Validation) (seq : ℕ) (id : LedgerId) → is_full_of seq id (Some v) ≡ true → (v.seq ≡ seq) × (v.id ≡ id)
names_it v seq id full =
    let parts = and_parts (v.full && v.seq == seq) _ full in
    (eqb-true v.seq seq (and_parts v.full _ parts.0).1, same_id-true v.id id parts.1)

-- the taken validation is found among the current ones, or one before it
pub found_if_taken : (p : Validation → Bool) (rows : List Row) (from : ℕ) (v : Validation) → IsSome (row_of rows from) → p v ≡ true →
    IsSome (find p (filter_map (λ row. row.current) (at_member from (with_validation v) rows)))
found_if_taken p [] from v has passes = cc
found_if_taken p (row ∷ rows) from v has passes =
    cond_both (row.member == from) (with_validation v row ∷ rows) (row ∷ at_member from (with_validation v) rows) (λ rs. IsSome (find p (filter_map (λ r. r.current) rs)))
    (λ _. ap is_some (cond-true (p v) (Some v) (find p (filter_map (λ r. r.current) rows)) passes))
    (λ other. there row.current (filter_map (λ r. r.current) (at_member from (with_validation v) rows))
    (found_if_taken p rows from v (subst IsSome (cond-false _ (Some row) (row_of rows from) other) has) passes))
  where
    there : (o : Option Validation) (vs : List Validation) → IsSome (find p vs) → IsSome (find p (cons_option o vs))
    there None vs h = h
    there (Some u) vs h = cond_both (p u) (Some u) (find p vs) IsSome (λ _. refl) (λ _. h)

-- what is found passes
pub find_passes : {X : Type 0} (p : X → Bool) (xs : List X) → IfSome (find p xs) (λ x. p x ≡ true)
find_passes p [] = tt
find_passes p (x ∷ xs) = cond_both (p x) (Some x) (find p xs) (λ o. IfSome o (λ y. p y ≡ true)) (λ e. e) (λ _. find_passes p xs)

-- if none passes, none is found
pub find_none : {X : Type 0} (p : X → Bool) → ((x : X) → p x ≡ false) → (xs : List X) → find p xs ≡ None
find_none p none [] = refl
find_none p none (x ∷ xs) = cond-false (p x) (Some x) (find p xs) (none x) ∙ find_none p none xs

-- if some row holds a ledger, a validation of it is found, or one before it
pub found_if_held : (p : Validation → Bool) (seq : ℕ) (id : LedgerId) → ((v : Validation) → is_full_of seq id (Some v) ≡ true → p v ≡ true) → (rows : List Row) → 1 ≤ count_full seq id rows → IsSome (find p (filter_map (λ row. row.current) rows))
found_if_held p seq id each [] some = absurd (omega (arith, some))
found_if_held p seq id each (row ∷ rows) some =
    at_row row.current (found_if_held p seq id each rows) (subst (λ (n : ℕ). 1 ≤ n) (count_by-cons (λ r. is_full_of seq id r.current) row rows) some)
  where
    at_row : (o : Option Validation) → (1 ≤ count_full seq id rows → IsSome (find p (filter_map (λ r. r.current) rows))) → 1 ≤ cond (is_full_of seq id o) 1 0 + count_full seq id rows →
        IsSome (find p (cons_option o (filter_map (λ r. r.current) rows)))
    at_row None rest h = rest (omega (arith, h))
    at_row (Some v) rest h =
        cond_both (p v) (Some v) (find p (filter_map (λ r. r.current) rows)) IsSome (λ _. refl)
        (λ fails. rest (no_more (is_full_of seq id (Some v)) refl fails h))
      where
        no_more : (b : Bool) → is_full_of seq id (Some v) ≡ b → p v ≡ false → 1 ≤ cond b 1 0 + count_full seq id rows → 1 ≤ count_full seq id rows
        no_more true full fails h = let never : true ≡ false = sym (each v full) ∙ fails in absurd cc
        no_more false other fails h = omega (arith, h)
