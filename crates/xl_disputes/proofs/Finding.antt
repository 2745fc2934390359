-- Where the code finds an id in an index, and what it does there.
use Rattle.std.proofs.Common.{◌≡◌, ◌≢◌, ℕ, zero, suc, ◌+◌, ◌<◌, ◌≤◌, ◌==◌, nat_lt, Bool, true, false, cond, List, [], ◌∷◌, ◌++◌, length, take, drop, set, get_or, refl, sym, ap, subst, ◌∙◌, arith, drop-cons}
use Rattle.std.proofs.lemmas.Bool.Decides.{nat_tests}
use Rattle.std.proofs.lemmas.List.{set_split, take-append-drop}
use Rattle.std.proofs.lemmas.List.Sums.{prefix_len-le-length}
use Rattle.xl_base.specs.Sets.{is_below, RisesFrom, IsRising}
use Rattle.xl_base.specs.declared.ids.TxId.{TxId}
use Rattle.xl_disputes.specs.declared.rows.Row.{Row}
use Rattle.xl_disputes.specs.Tallies.{Tally, no_tally, held_by, exchanged, IsWithin}
use Rattle.xl_disputes.specs.Rows.{is_same, ids_of, tally_of, IsIndex, put, with_exchange, goes_before, place_of, IsThere, IsAbsent}
use Rattle.xl_disputes.specs.declared.rows.TheConstants.{ROWS}
use Rattle.xl_disputes.proofs.IdOrder.{irreflexive, below_trans, neither_below, same_itself, same_is, below_other}
use Rattle.xl_disputes.proofs.Exchanging.{rises_rest, tally_above, exchange-IsIndex}

not_later : (a tx b : TxId) (lower : Bool) → lower ≡ is_below b tx → is_below a b ≡ true → is_below a tx ≡ false → lower ≡ false
not_later a tx b true is after high = absurd (cc (high, below_trans a b tx after (sym is)))
not_later a tx b false is after high = refl

above_all : (a tx : TxId) (rows : List Row) (i : ℕ) (d : Row) → RisesFrom a (ids_of rows) → is_below a tx ≡ false → i < length rows → is_below (get_or rows i d).id tx ≡ false
above_all a tx [] i d rises high within = absurd (omega (arith, within))
above_all a tx (row ∷ rows) zero d rises high within = not_later a tx row.id (is_below row.id tx) refl rises.0 high
above_all a tx (row ∷ rows) (suc i) d rises high within =
    above_all row.id tx rows i d rises.1 (not_later a tx row.id (is_below row.id tx) refl rises.0 high) (omega (arith, within))

-- a row is below an id exactly where it stands before its place
pub below_place : (tx : TxId) (rows : List Row) (i : ℕ) (d : Row) → IsRising (ids_of rows) → i < length rows →
    is_below (get_or rows i d).id tx ≡ nat_lt i (place_of tx rows)
below_place tx [] i d rises within = absurd (omega (arith, within))
below_place tx (row ∷ rows) zero d rises within = first (is_below row.id tx)
  where
    first : (b : Bool) → b ≡ nat_lt 0 (cond b (1 + place_of tx rows) 0)
    first true = grind (arith, nat_tests)
    first false = refl
below_place tx (row ∷ rows) (suc i) d rises within =
    next (is_below row.id tx) refl (below_place tx rows i d (rises_rest row.id (ids_of rows) rises) (omega (arith, within)))
  where
    next : (b : Bool) → b ≡ is_below row.id tx → is_below (get_or rows i d).id tx ≡ nat_lt i (place_of tx rows) →
        is_below (get_or rows i d).id tx ≡ nat_lt (suc i) (cond b (1 + place_of tx rows) 0)
    next true is more = more ∙ grind (arith, nat_tests)
    next false is more = above_all row.id tx rows i d rises (sym is) (omega (arith, within)) ∙ grind (arith, nat_tests)

-- what stands from its place on
abbrev here : TxId → Tally → Tally → List Row → List Row
here tx from to [] = put tx (exchanged from to no_tally) []
here tx from to (row ∷ rows) = cond (is_below tx row.id) (put tx (exchanged from to no_tally) (row ∷ rows)) (put tx (exchanged from to row.tally) rows)

exchange_split : (tx : TxId) (from to : Tally) (rows : List Row) → with_exchange tx from to rows ≡ take (place_of tx rows) rows ++ here tx from to (drop (place_of tx rows) rows)
exchange_split tx from to [] = refl
exchange_split tx from to (row ∷ rows) = step (is_below row.id tx) (exchange_split tx from to rows)
  where
    step : (b : Bool) → with_exchange tx from to rows ≡ take (place_of tx rows) rows ++ here tx from to (drop (place_of tx rows) rows) →
        cond b (row ∷ with_exchange tx from to rows) (here tx from to (row ∷ rows))
        ≡ take (cond b (1 + place_of tx rows) 0) (row ∷ rows) ++ here tx from to (drop (cond b (1 + place_of tx rows) 0) (row ∷ rows))
    step true more = let e : 1 + place_of tx rows ≡ suc (place_of tx rows) = omega arith in rw e (ap (λ rs. row ∷ rs) more)
    step false more = refl

tally_split : (tx : TxId) (rows : List Row) → IsRising (ids_of rows) → tally_of rows tx ≡ tally_of (drop (place_of tx rows) rows) tx
tally_split tx [] rises = refl
tally_split tx (row ∷ rows) rises = step (is_below row.id tx) refl (tally_split tx rows (rises_rest row.id (ids_of rows) rises))
  where
    step : (b : Bool) → b ≡ is_below row.id tx → tally_of rows tx ≡ tally_of (drop (place_of tx rows) rows) tx →
        tally_of (row ∷ rows) tx ≡ tally_of (drop (cond b (1 + place_of tx rows) 0) (row ∷ rows)) tx
    step true is more = let e : 1 + place_of tx rows ≡ suc (place_of tx rows) = omega arith in rw (e, below_other row.id tx (sym is)) more
    step false is more = refl

-- the id stands at its place
module _ (tx : TxId) (from to : Tally) (rows : List Row) (place : ℕ) (d : Row) (rises : IsRising (ids_of rows)) (there : IsThere tx rows place) where
  same : is_same (get_or rows place d).id tx ≡ true
  same = there.same d

  from_place : drop place rows ≡ get_or rows place d ∷ drop (suc place) rows
  from_place = drop-cons rows place d there.within

  pub tally_there : tally_of rows tx ≡ (get_or rows place d).tally
  tally_there = tally_split tx rows rises ∙ ap (λ n. tally_of (drop n rows) tx) (sym there.is) ∙ ap (λ rs. tally_of rs tx) from_place ∙ rw same refl

  exchange_there : with_exchange tx from to rows ≡ take place rows ++ put tx (exchanged from to (get_or rows place d).tally) (drop (suc place) rows)
  exchange_there =
      let high : is_below tx (get_or rows place d).id ≡ false = subst (λ x. is_below tx x ≡ false) (sym (same_is (get_or rows place d).id tx same)) (irreflexive tx) in
      exchange_split tx from to rows ∙ ap (λ n. take n rows ++ here tx from to (drop n rows)) (sym there.is)
      ∙ ap (λ rs. take place rows ++ here tx from to rs) from_place ∙ rw high refl

  pub exchange_set : held_by (exchanged from to (get_or rows place d).tally) ≢ 0 →
      set rows place (record { id = tx; tally = exchanged from to (get_or rows place d).tally }) ≡ with_exchange tx from to rows
  exchange_set some =
      let more : (held_by (exchanged from to (get_or rows place d).tally) == 0) ≡ false = grind (arith, nat_tests, some) in
      set_split rows place (record { id = tx; tally = exchanged from to (get_or rows place d).tally }) there.within
      ∙ sym (exchange_there ∙ rw more refl)

  pub exchange_remove : held_by (exchanged from to (get_or rows place d).tally) ≡ 0 → take place rows ++ drop (suc place) rows ≡ with_exchange tx from to rows
  exchange_remove none =
      let gone : (held_by (exchanged from to (get_or rows place d).tally) == 0) ≡ true = grind (arith, nat_tests, none) in
      sym (exchange_there ∙ rw gone refl)

-- the id doesn't stand there
not_here : (tx : TxId) (from to : Tally) (rows : List Row) → goes_before tx (ids_of rows) ≡ true → here tx from to rows ≡ put tx (exchanged from to no_tally) rows
not_here tx from to [] above = refl
not_here tx from to (row ∷ rows) above = rw above refl

rises_drop : (n : ℕ) (rows : List Row) → IsRising (ids_of rows) → IsRising (ids_of (drop n rows))
rises_drop zero rows rises = rises
rises_drop (suc n) [] rises = tt
rises_drop (suc n) (row ∷ rows) rises = rises_drop n rows (rises_rest row.id (ids_of rows) rises)

none_here : (tx : TxId) (rows : List Row) → goes_before tx (ids_of rows) ≡ true → IsRising (ids_of rows) → tally_of rows tx ≡ no_tally
none_here tx [] above rises = refl
none_here tx (row ∷ rows) above rises = tally_above tx (row ∷ rows) (above, rises)

module _ (tx : TxId) (from to : Tally) (rows : List Row) (place : ℕ) (rises : IsRising (ids_of rows)) (absent : IsAbsent tx rows place) where
  pub tally_absent : tally_of rows tx ≡ no_tally
  tally_absent = tally_split tx rows rises ∙ ap (λ n. tally_of (drop n rows) tx) (sym absent.is) ∙ none_here tx (drop place rows) absent.above (rises_drop place rows rises)

  exchange_absent : with_exchange tx from to rows ≡ take place rows ++ put tx (exchanged from to no_tally) (drop place rows)
  exchange_absent =
      exchange_split tx from to rows ∙ ap (λ n. take n rows ++ here tx from to (drop n rows)) (sym absent.is)
      ∙ ap (λ rs. take place rows ++ rs) (not_here tx from to (drop place rows) absent.above)

  pub exchange_insert : held_by (exchanged from to no_tally) ≢ 0 →
      take place rows ++ record { id = tx; tally = exchanged from to no_tally } ∷ drop place rows ≡ with_exchange tx from to rows
  exchange_insert some =
      let more : (held_by (exchanged from to no_tally) == 0) ≡ false = grind (arith, nat_tests, some) in
      sym (exchange_absent ∙ rw more refl)

  pub exchange_nothing : held_by (exchanged from to no_tally) ≡ 0 → rows ≡ with_exchange tx from to rows
  exchange_nothing none =
      let gone : (held_by (exchanged from to no_tally) == 0) ≡ true = grind (arith, nat_tests, none) in
      sym (exchange_absent ∙ rw gone (take-append-drop place rows))

-- ---- as the code does it

-- what the code's test tells of a row
module _ (tx : TxId) (rows : List Row) (i : ℕ) (row : Row) (r : Bool) (rises : IsRising (ids_of rows)) (within : i < length rows) (at : row ≡ get_or rows i row) (is : r ≡ is_below row.id tx) where
  told : r ≡ nat_lt i (place_of tx rows)
  told = is ∙ ap (λ (x : Row). is_below x.id tx) at ∙ below_place tx rows i row rises within

  pub is_before : r ≡ true → i < place_of tx rows
  is_before lower = let t : nat_lt i (place_of tx rows) ≡ true = sym told ∙ lower in grind (arith, nat_tests, t)

  pub not_before : r ≡ false → place_of tx rows ≤ i
  not_before high = let t : nat_lt i (place_of tx rows) ≡ false = sym told ∙ high in grind (arith, nat_tests, t)

pub place_within : (tx : TxId) (rows : List Row) → place_of tx rows ≤ length rows
place_within tx rows = prefix_len-le-length (λ (row : Row). is_below row.id tx) rows

-- at its place stands another id
pub is_absent : (tx : TxId) (rows : List Row) (place : ℕ) (row : Row) (r : Bool) → IsRising (ids_of rows) → place ≡ place_of tx rows → place ≢ length rows →
    row ≡ get_or rows place row → r ≡ is_same row.id tx → r ≡ false → IsAbsent tx rows place
is_absent tx rows place row r rises is some at same differs =
    let within : place < length rows = omega (arith, some, is, place_within tx rows) in
    let high : is_below row.id tx ≡ false = ap (λ (x : Row). is_below x.id tx) at ∙ below_place tx rows place row rises within ∙ past in
    record { is = is; above = ap (λ rs. goes_before tx (ids_of rs)) (drop-cons rows place row within) ∙ ap (λ (x : Row). is_below tx x.id) (sym at) ∙ lower (is_below tx row.id) refl high }
  where
    past : nat_lt place (place_of tx rows) ≡ false
    past = grind (arith, nat_tests, is)

    lower : (b : Bool) → b ≡ is_below tx row.id → is_below row.id tx ≡ false → b ≡ true
    lower true known high = refl
    lower false known high =
        let one : row.id ≡ tx = neither_below row.id tx high (sym known) in
        absurd (cc (sym differs ∙ same ∙ ap (λ x. is_same x tx) one ∙ same_itself tx))

module _ (tx : TxId) (from to : Tally) (rows : List Row) (place : ℕ) (row : Row) (index : IsIndex rows) (there : IsThere tx rows place) (at : row ≡ get_or rows place row) where
  pub tally_at : row.tally ≡ tally_of rows tx
  tally_at = ap (λ (r : Row). r.tally) at ∙ sym (tally_there tx from to rows place row index.rising there)

  module _ (tally : Tally) (is : tally ≡ exchanged from to row.tally) where
    same_tally : exchanged from to (get_or rows place row).tally ≡ tally
    same_tally = ap (λ (r : Row). exchanged from to r.tally) (sym at) ∙ sym is

    pub set_exact : held_by tally ≢ 0 → set rows place (record { id = tx; tally = tally }) ≡ with_exchange tx from to rows
    set_exact =
        subst (λ (t : Tally). held_by t ≢ 0 → set rows place (record { id = tx; tally = t }) ≡ with_exchange tx from to rows) same_tally
        (exchange_set tx from to rows place row index.rising there)

    pub remove_exact : held_by tally ≡ 0 → take place rows ++ drop (suc place) rows ≡ with_exchange tx from to rows
    remove_exact =
        subst (λ (t : Tally). held_by t ≡ 0 → take place rows ++ drop (suc place) rows ≡ with_exchange tx from to rows) same_tally
        (exchange_remove tx from to rows place row index.rising there)

module _ (tx : TxId) (from to : Tally) (rows : List Row) (place : ℕ) (index : IsIndex rows) (absent : IsAbsent tx rows place) (none tally : Tally) (nothing : none ≡ no_tally) (is : tally ≡ exchanged from to none) where
  same_none : exchanged from to no_tally ≡ tally
  same_none = ap (exchanged from to) (sym nothing) ∙ sym is

  pub insert_exact : held_by tally ≢ 0 → take place rows ++ record { id = tx; tally = tally } ∷ drop place rows ≡ with_exchange tx from to rows
  insert_exact =
      subst (λ (t : Tally). held_by t ≢ 0 → take place rows ++ record { id = tx; tally = t } ∷ drop place rows ≡ with_exchange tx from to rows) same_none
      (exchange_insert tx from to rows place index.rising absent)

  pub nothing_exact : held_by tally ≡ 0 → rows ≡ with_exchange tx from to rows
  nothing_exact = subst (λ (t : Tally). held_by t ≡ 0 → rows ≡ with_exchange tx from to rows) same_none (exchange_nothing tx from to rows place index.rising absent)

  -- there is room for one id more
  pub has_room : IsWithin from (tally_of rows tx) → (held_by from ≡ 0 → length rows < ROWS) → length rows < ROWS
  has_room within room =
      let nothing_out : IsWithin from no_tally = subst (IsWithin from) (tally_absent tx from to rows place index.rising absent) within in
      room (omega (arith, nothing_out.members, nothing_out.ours))

-- what the code's test tells
pub is_gone : (t : Tally) (r : Bool) → r ≡ (held_by t == 0) → r ≡ true → held_by t ≡ 0
is_gone t r is yes' = grind (arith, nat_tests, is, yes')

pub is_kept : (t : Tally) (r : Bool) → r ≡ (held_by t == 0) → r ≡ false → held_by t ≢ 0
is_kept t r is no' = grind (arith, nat_tests, is, no')

pub from_exact : (tx : TxId) (from to : Tally) (rows new : List Row) → IsIndex rows → new ≡ with_exchange tx from to rows → IsIndex new
from_exact tx from to rows new index exact = subst IsIndex (sym exact) (exchange-IsIndex tx from to rows index)
