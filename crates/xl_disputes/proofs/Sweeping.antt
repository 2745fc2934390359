-- Rows whose id is in no set go, all in one walk.
use Rattle.std.proofs.Common.{◌≡◌, ◌≢◌, ℕ, zero, suc, ◌+◌, ◌<◌, ◌≤◌, Bool, true, false, cond, List, [], ◌∷◌, ◌++◌, length, take, drop, get_or, refl, sym, ap, subst, ◌∙◌, arith, length-append}
use Rattle.std.specs.Prelude.{All, Option, Some, None, is_some, unwrap_or, filter}
use Rattle.std.proofs.lemmas.Bool.{cond_both}
use Rattle.std.proofs.lemmas.Bool.Decides.{nat_tests}
use Rattle.std.proofs.lemmas.List.{take_more, take_all, drop_more, length-map}
use Rattle.std.proofs.lemmas.List.Elements.{All-nil, All-cons, All-head, All-tail, All-append, filter-append}
use Rattle.xl_base.specs.Sets.{RisesFrom, IsRising}
use Rattle.xl_base.specs.declared.ids.TxId.{TxId}
use Rattle.xl_pool.specs.Pools.{Slot, get, live, Updates}
use Rattle.xl_pool.specs.declared.name.Name.{Name}
use Rattle.xl_disputes.specs.declared.rows.Row.{Row}
use Rattle.xl_disputes.specs.Tallies.{held_by, IsWhole}
use Rattle.xl_disputes.specs.Rows.{is_same, ids_of, tally_of, is_held}
use Rattle.xl_disputes.specs.Pooled.{no_row, row_of, rows_of, if_held, IsPooled, IsSwept}
use Rattle.xl_disputes.specs.declared.rows.TheConstants.{ROWS}
use Rattle.xl_disputes.proofs.IdOrder.{same_is}
use Rattle.xl_disputes.proofs.Exchanging.{RisesFrom-lower, rises_rest, tally_above}
use Rattle.xl_disputes.proofs.Pooling.{before_differs, after_differs, others_same}

-- ---- one name after the other

same_then : (P : Name → Option Row) (old new : List (Slot Row)) (names : List Name) → All (λ n. get new n ≡ get old n) names → All (λ n. get old n ≡ P n) names → All (λ n. get new n ≡ P n) names
same_then P old new [] same is = All-nil (λ n. get new n ≡ P n)
same_then P old new (name ∷ names) same is =
    All-cons (λ n. get new n ≡ P n) name names
    (All-head (λ n. get new n ≡ get old n) name names same ∙ All-head (λ n. get old n ≡ P n) name names is)
    (same_then P old new names (All-tail (λ n. get new n ≡ get old n) name names same) (All-tail (λ n. get old n ≡ P n) name names is))

pub swept_none : (pool : List (Slot Row)) (order : List Name) → IsSwept pool pool order 0
swept_none pool order = record {
  front = All-nil (λ n. get pool n ≡ if_held (row_of pool n));
  back = unchanged order;
  slots = refl;
  count = refl;
}
  where
    unchanged : (names : List Name) → All (λ n. get pool n ≡ get pool n) names
    unchanged [] = All-nil (λ n. get pool n ≡ get pool n)
    unchanged (name ∷ names) = All-cons (λ n. get pool n ≡ get pool n) name names refl (unchanged names)

-- how many rows it is: one or none
abbrev one_if : Bool → ℕ
one_if held = cond held 1 0

module _ (old now : List (Slot Row)) (order : List Name) (i : ℕ) (name : Name) (swept : IsSwept old now order i) (within : i < length order) (at : name ≡ get_or order i name) (rises : IsRising (ids_of (rows_of old order))) where
  behind : drop i order ≡ name ∷ drop (i + 1) order
  behind = drop_more order i name within ∙ ap (λ n. n ∷ drop (i + 1) order) (sym at)

  rest : All (λ n. get now n ≡ get old n) (name ∷ drop (i + 1) order)
  rest = subst (All (λ n. get now n ≡ get old n)) behind swept.back

  pub as_before : get now name ≡ get old name
  as_before = All-head (λ n. get now n ≡ get old n) name (drop (i + 1) order) rest

  row_before : row_of now name ≡ row_of old name
  row_before = ap (λ o. unwrap_or o no_row) as_before

  module _ (new : List (Slot Row)) (updates : Updates now new name (if_held (row_of now name))) (slots : length new ≡ length now) (count : live new + 1 ≡ live now + one_if (is_held (row_of now name))) where
    front_same : All (λ n. get new n ≡ get now n) (take i order)
    front_same =
        others_same now new name (if_held (row_of now name)) updates (take i order)
        (subst (λ x. All (λ n. n ≢ x) (take i order)) (sym at) (before_differs old order i name rises within))

    back_same : All (λ n. get new n ≡ get now n) (drop (i + 1) order)
    back_same =
        let e : i + 1 ≡ suc i = omega arith in
        others_same now new name (if_held (row_of now name)) updates (drop (i + 1) order)
        (subst (λ k. All (λ n. n ≢ name) (drop k order)) (sym e) (subst (λ x. All (λ n. n ≢ x) (drop (suc i) order)) (sym at) (after_differs old order i name rises within)))

    more_rows : take (i + 1) (rows_of old order) ≡ take i (rows_of old order) ++ row_of old name ∷ []
    more_rows =
        take_more (rows_of old order) i (row_of old name) (omega (arith, within, length-map order (row_of old)))
        ∙ ap (λ row. take i (rows_of old order) ++ row ∷ []) (at_row order i within at)
      where
        at_row : (names : List Name) (j : ℕ) → j < length names → name ≡ get_or names j name → get_or (rows_of old names) j (row_of old name) ≡ row_of old name
        at_row [] j few is = absurd (omega (arith, few))
        at_row (n ∷ names) zero few is = ap (row_of old) (sym is)
        at_row (n ∷ names) (suc j) few is = at_row names j (omega (arith, few)) is

    held_length : (b : Bool) (row : Row) → length (cond b (row ∷ []) []) ≡ one_if b
    held_length true row = refl
    held_length false row = refl

    pub swept_more : IsSwept old new order (i + 1)
    swept_more = record {
      front =
          subst (All (λ n. get new n ≡ if_held (row_of old n))) (sym (take_more order i name within ∙ ap (λ n. take i order ++ n ∷ []) (sym at)))
          (All-append (λ n. get new n ≡ if_held (row_of old n)) (take i order) (name ∷ [])
          (same_then (λ n. if_held (row_of old n)) now new (take i order) front_same swept.front)
          (All-cons (λ n. get new n ≡ if_held (row_of old n)) name [] (updates.changed ∙ ap if_held row_before) (All-nil (λ n. get new n ≡ if_held (row_of old n)))));
      back = same_then (get old) now new (drop (i + 1) order) back_same (All-tail (λ n. get now n ≡ get old n) name (drop (i + 1) order) rest);
      slots = slots ∙ swept.slots;
      count =
          let parted : filter is_held (take (i + 1) (rows_of old order)) ≡ filter is_held (take i (rows_of old order)) ++ cond (is_held (row_of old name)) (row_of old name ∷ []) [] =
          ap (filter is_held) more_rows ∙ filter-append is_held (take i (rows_of old order)) (row_of old name ∷ []) in
          let long : length (filter is_held (take (i + 1) (rows_of old order))) ≡ length (filter is_held (take i (rows_of old order))) + one_if (is_held (row_of old name)) =
          ap length parted ∙ length-append (filter is_held (take i (rows_of old order))) (cond (is_held (row_of old name)) (row_of old name ∷ []) [])
          ∙ ap (λ n. length (filter is_held (take i (rows_of old order))) + n) (held_length (is_held (row_of old name)) (row_of old name)) in
          omega (arith, count, swept.count, long, ap (λ row. one_if (is_held row)) row_before);
    }

-- ---- the names that still find a row

module _ (old new : List (Slot Row)) where
  left_rows : (order : List Name) → All (λ n. get new n ≡ if_held (row_of old n)) order → rows_of new (filter (λ n. is_some (get new n)) order) ≡ filter is_held (rows_of old order)
  left_rows [] all = refl
  left_rows (name ∷ order) all =
      step (is_held (row_of old name)) (get new name) refl (All-head (λ n. get new n ≡ if_held (row_of old n)) name order all)
      (left_rows order (All-tail (λ n. get new n ≡ if_held (row_of old n)) name order all))
    where
      step : (held : Bool) (found : Option Row) → get new name ≡ found → found ≡ cond held (Some (row_of old name)) None →
          rows_of new (filter (λ n. is_some (get new n)) order) ≡ filter is_held (rows_of old order) →
          rows_of new (cond (is_some found) (name ∷ filter (λ n. is_some (get new n)) order) (filter (λ n. is_some (get new n)) order))
          ≡ cond held (row_of old name ∷ filter is_held (rows_of old order)) (filter is_held (rows_of old order))
      step true None is kept more = absurd (cc kept)
      step true (Some row) is kept more = ap (λ o. unwrap_or o no_row ∷ rows_of new (filter (λ n. is_some (get new n)) order)) (is ∙ kept) ∙ ap (λ rows. row_of old name ∷ rows) more
      step false None is gone more = more
      step false (Some row) is gone more = absurd (cc gone)

left_there : (new : List (Slot Row)) (order : List Name) → All (λ n. get new n ≡ Some (row_of new n)) (filter (λ n. is_some (get new n)) order)
left_there new [] = All-nil (λ n. get new n ≡ Some (row_of new n))
left_there new (name ∷ order) = step (get new name) refl (left_there new order)
  where
    step : (found : Option Row) → get new name ≡ found → All (λ n. get new n ≡ Some (row_of new n)) (filter (λ n. is_some (get new n)) order) →
        All (λ n. get new n ≡ Some (row_of new n)) (cond (is_some found) (name ∷ filter (λ n. is_some (get new n)) order) (filter (λ n. is_some (get new n)) order))
    step None is all = all
    step (Some row) is all =
        All-cons (λ n. get new n ≡ Some (row_of new n)) name (filter (λ n. is_some (get new n)) order) (is ∙ ap (λ o. Some (unwrap_or o no_row)) (sym is)) all

module _ (old new : List (Slot Row)) (order after : List Name) (room room' : ℕ) (pooled : IsPooled old order room) (swept : IsSwept old new order (length order))
    (after_is : after ≡ filter (λ n. is_some (get new n)) order) (roomy : ROWS ≤ room') where
  all_front : All (λ n. get new n ≡ if_held (row_of old n)) order
  all_front = subst (All (λ n. get new n ≡ if_held (row_of old n))) (take_all (length order) order (omega arith)) swept.front

  pub swept_rows : rows_of new after ≡ filter is_held (rows_of old order)
  swept_rows = ap (rows_of new) after_is ∙ left_rows old new order all_front

  pub swept_pooled : IsPooled new after room'
  swept_pooled = record {
    slots = swept.slots ∙ pooled.slots;
    count =
        let all : take (length order) (rows_of old order) ≡ rows_of old order = take_all (length order) (rows_of old order) (omega (arith, length-map order (row_of old))) in
        omega (arith, swept.count, pooled.count, ap (λ rows. length (filter is_held rows)) all, ap length swept_rows, length-map after (row_of new));
    there = subst (All (λ n. get new n ≡ Some (row_of new n))) (sym after_is) (left_there new order);
    roomy = roomy;
  }

-- ---- what stays is an index, and says the same

rises_from_held : (a : TxId) (rows : List Row) → RisesFrom a (ids_of rows) → RisesFrom a (ids_of (filter is_held rows))
rises_from_held a [] rises = tt
rises_from_held a (row ∷ rows) rises =
    cond_both (is_held row) (row ∷ filter is_held rows) (filter is_held rows) (λ rs. RisesFrom a (ids_of rs))
    (λ _. (rises.0, rises_from_held row.id rows rises.1))
    (λ _. rises_from_held a rows (RisesFrom-lower a row.id (ids_of rows) rises.0 rises.1))

pub held_rise : (rows : List Row) → IsRising (ids_of rows) → IsRising (ids_of (filter is_held rows))
held_rise [] rises = tt
held_rise (row ∷ rows) rises =
    cond_both (is_held row) (row ∷ filter is_held rows) (filter is_held rows) (λ rs. IsRising (ids_of rs))
    (λ _. rises_from_held row.id rows rises) (λ _. held_rise rows (rises_rest row.id (ids_of rows) rises))

pub held_counted : (rows : List Row) → All (λ row. 0 < held_by row.tally) (filter is_held rows)
held_counted [] = All-nil (λ row. 0 < held_by row.tally)
held_counted (row ∷ rows) =
    cond_both (is_held row) (row ∷ filter is_held rows) (filter is_held rows) (All (λ row. 0 < held_by row.tally))
    (λ held. All-cons (λ r. 0 < held_by r.tally) row (filter is_held rows) (grind (arith, nat_tests, held)) (held_counted rows)) (λ _. held_counted rows)

pub held_tally : (tx : TxId) (rows : List Row) → IsRising (ids_of rows) → IsWhole (tally_of rows tx) → tally_of (filter is_held rows) tx ≡ tally_of rows tx
held_tally tx [] rises whole = refl
held_tally tx (row ∷ rows) rises whole =
    cond_both (is_held row) (row ∷ filter is_held rows) (filter is_held rows) (λ rs. tally_of rs tx ≡ tally_of (row ∷ rows) tx)
    (λ _. held (is_same row.id tx) (λ w. held_tally tx rows later w) whole)
    (λ none. gone (is_same row.id tx) refl none (λ w. held_tally tx rows later w) whole)
  where
    later : IsRising (ids_of rows)
    later = rises_rest row.id (ids_of rows) rises

    held : (same : Bool) → (IsWhole (tally_of rows tx) → tally_of (filter is_held rows) tx ≡ tally_of rows tx) → IsWhole (cond same row.tally (tally_of rows tx)) →
        cond same row.tally (tally_of (filter is_held rows) tx) ≡ cond same row.tally (tally_of rows tx)
    held true more w = refl
    held false more w = more w

    gone : (same : Bool) → same ≡ is_same row.id tx → is_held row ≡ false → (IsWhole (tally_of rows tx) → tally_of (filter is_held rows) tx ≡ tally_of rows tx) →
        IsWhole (cond same row.tally (tally_of rows tx)) → tally_of (filter is_held rows) tx ≡ cond same row.tally (tally_of rows tx)
    gone true is none more w =
        let nothing : held_by row.tally ≡ 0 = grind (arith, nat_tests, none) in
        ap (tally_of (filter is_held rows)) (sym (same_is row.id tx (sym is))) ∙ tally_above row.id (filter is_held rows) (rises_from_held row.id rows rises) ∙ sym (w nothing)
    gone false is none more w = more w
