-- What a node keeps as its time is set and rows expire.
use Rattle.std.proofs.Common.{◌≡◌, ℕ, ◌+◌, ◌≤◌, ◌/◌, Bool, cond, List, [], ◌∷◌, refl, sym, ap, subst, ◌∙◌, arith, Option, Some, None}
use Rattle.std.specs.Prelude.{map, max, count_by}
use Rattle.std.proofs.lemmas.Bool.{cond_both}
use Rattle.xl_base.specs.declared.ids.LedgerId.{LedgerId}
use Rattle.xl_base.specs.Moments.{greatest_millis}
use Rattle.xl_lists.proofs.Counting.{count_by-cons}
use Rattle.xl_wire.specs.declared.validation.Validation.{Validation}
use Rattle.xl_validations.specs.declared.row.Row.{Row}
use Rattle.xl_validations.specs.Rows.{is_current, unexpired, row_at, is_full_of, count_full}
use Rattle.xl_validations.proofs.Turning.{members_then}
use Rattle.xl_core.specs.Node.{Node, at_moment}
use Rattle.xl_core.proofs.Current.{current_then, none_expire}
use Rattle.xl_core.specs.Rest.{IsAtRest, IsReady}

full_then : (seq : ℕ) (id : LedgerId) (s : ℕ) (o : Option Validation) (m n : ℕ) → m ≤ n → cond (is_full_of seq id (unexpired s o)) 1 0 + m ≤ cond (is_full_of seq id o) 1 0 + n
full_then seq id s None m n le = omega (arith, le)
full_then seq id s (Some v) m n le =
    cond_both (is_current s v) (Some v) None (λ o. cond (is_full_of seq id o) 1 0 + m ≤ cond (is_full_of seq id (Some v)) 1 0 + n) (λ _. omega (arith, le)) (λ _. omega (arith, le))

-- no ledger is counted more often
pub fewer_then : (seq : ℕ) (id : LedgerId) (s : ℕ) (rows : List Row) → count_full seq id (map (row_at s) rows) ≤ count_full seq id rows
fewer_then seq id s [] = omega arith
fewer_then seq id s (row ∷ rows) =
    let full : Row → Bool = λ r. is_full_of seq id r.current in
    rw (count_by-cons full (row_at s row) (map (row_at s) rows), count_by-cons full row rows)
    (full_then seq id s row.current (count_by full (map (row_at s) rows)) (count_by full rows) (fewer_then seq id s rows))

pub rest_then : (now : ℕ) (n : Node) → IsAtRest n → IsAtRest (at_moment now n)
rest_then now n rest = record {
  valid = rest.valid;
  members = members_then (max n.time now / 1000) n.rows ∙ rest.members;
  reported = λ seq id enough. rest.reported seq id (omega (arith, enough, fewer_then seq id (max n.time now / 1000) n.rows));
}

pub ready_then : (now : ℕ) (n : Node) → now ≤ greatest_millis → IsReady n → IsReady (at_moment now n)
ready_then now n le ready = record {
  rest = rest_then now n ready.rest;
  keyed = record { own = ready.keyed.own; listed = ready.keyed.listed };
  time = omega (arith, le, ready.time);
  current = current_then (max n.time now / 1000) n.rows;
  known = ready.known;
}

-- within a second nothing expires
pub same_second : (now : ℕ) (n : Node) (time before after : ℕ) → IsReady n → time ≡ max n.time now → before ≡ n.time / 1000 → after ≡ time / 1000 → after ≡ before → record n { time = time } ≡ at_moment now n
same_second now n time before after ready time_is before_is after_is same =
    let still : max n.time now / 1000 ≡ n.time / 1000 = sym (ap (λ (t : ℕ). t / 1000) time_is) ∙ sym after_is ∙ same ∙ before_is in
    ap (λ (t : ℕ). let m : Node = record n { time = t } in m) time_is
    ∙ ap (λ (rs : List Row). let m : Node = record n { time = max n.time now; rows = rs } in m)
    (sym (ap (λ (s : ℕ). map (row_at s) n.rows) still ∙ none_expire (n.time / 1000) n.rows ready.current))

-- so at its own time a node is as it is
pub at_its_time : (n m : Node) → n ≡ m → IsReady n → at_moment n.time m ≡ m
at_its_time n m is ready =
    let same : n.time ≡ max n.time n.time = omega arith in
    subst (λ (x : Node). at_moment n.time x ≡ x) is (sym (same_second n.time n n.time (n.time / 1000) (n.time / 1000) ready same refl refl refl))

-- the time and the rows as the code has them
pub ready_after : (now : ℕ) (n : Node) (time second : ℕ) (rows : List Row) → now ≤ greatest_millis → time ≡ max n.time now → second ≡ time / 1000 → rows ≡ map (row_at second) n.rows → IsReady n → IsReady (record n { time = time; rows = rows })
ready_after now n time second rows le time_is second_is rows_are ready =
    let at : second ≡ max n.time now / 1000 = second_is ∙ ap (λ (t : ℕ). t / 1000) time_is in
    let is : rows ≡ map (row_at (max n.time now / 1000)) n.rows = rows_are ∙ ap (λ (s : ℕ). map (row_at s) n.rows) at in
    subst (λ (t : ℕ). IsReady (record n { time = t; rows = rows })) (sym time_is)
    (subst (λ (rs : List Row). IsReady (record n { time = max n.time now; rows = rs })) (sym is) (ready_then now n le ready))
