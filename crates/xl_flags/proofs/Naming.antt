-- Amendments come to their places by rising ids, each once.
use Rattle.std.proofs.Common.{◌≡◌, ℕ, zero, suc, ◌+◌, Bool, true, false, cond, List, [], ◌∷◌, ◌++◌, refl, sym, ap, ◌∙◌, arith, inl, inr}
use Rattle.std.specs.Prelude.{fold, insert, ◌||◌}
use Rattle.std.specs.List.{prefix_len, list_any}
use Rattle.std.specs.Str.{bytes_eq}
use Rattle.std.proofs.lemmas.Bool.{cases_Bool, cond-true, cond-false, or_parts}
use Rattle.xl_base.specs.Sets.{is_below, RisesFrom, IsRising}
use Rattle.xl_base.specs.declared.ids.TxId.{TxId}
use Rattle.xl_disputes.specs.Disputes.{has}
use Rattle.xl_disputes.specs.Rising.{with_tx, rising}
use Rattle.xl_disputes.proofs.IdOrder.{neither_below, same_itself, same_is, irreflexive, below_trans}
use Rattle.xl_disputes.proofs.RisingIds.{IsRising-fold}
use Rattle.xl_flags.specs.declared.amendment.Amendment.{Amendment}
use Rattle.xl_flags.specs.Kept.{ids_of, new_row, has_row, row_place, with_row}

-- ---- an id that isn't there comes to its place

is_above : (id tx : TxId) (low : Bool) → low ≡ is_below tx id → is_below id tx ≡ false → bytes_eq id.0 tx.0 ≡ false → low ≡ true
is_above id tx true is high other = refl
is_above id tx false is high other = absurd (cc (sym other ∙ ap (λ (t : TxId). bytes_eq t.0 tx.0) (neither_below id tx high (sym is)) ∙ same_itself tx))

inserted : (tx : TxId) (ids : List TxId) → has ids tx ≡ false → with_tx tx ids ≡ insert ids (prefix_len (λ id. is_below id tx) ids) tx
inserted tx [] new = refl
inserted tx (id ∷ ids) new =
    let parts = or_parts (bytes_eq id.0 tx.0) (list_any (λ other. bytes_eq other.0 tx.0) ids) new in
    step (is_below id tx) refl parts.0 (inserted tx ids parts.1)
  where
    step : (below : Bool) → is_below id tx ≡ below → bytes_eq id.0 tx.0 ≡ false → with_tx tx ids ≡ insert ids (prefix_len (λ other. is_below other tx) ids) tx →
        cond below (id ∷ with_tx tx ids) (cond (is_below tx id) (tx ∷ id ∷ ids) (id ∷ ids)) ≡ insert (id ∷ ids) (cond below (1 + prefix_len (λ other. is_below other tx) ids) 0) tx
    step true is other more =
        let later : 1 + prefix_len (λ other. is_below other tx) ids ≡ suc (prefix_len (λ other. is_below other tx) ids) = omega arith in
        ap (λ ts. id ∷ ts) more ∙ sym (ap (λ n. insert (id ∷ ids) n tx) later)
    step false is other more = ap (λ b. cond b (tx ∷ id ∷ ids) (id ∷ ids)) (is_above id tx (is_below tx id) refl is other)

-- ---- one that is there changes nothing

later : (b c : Bool) → b ≡ false → (b || c) ≡ true → c ≡ true
later true c e h = absurd cc
later false c e h = h

-- what stands behind an id is above it
behind : (id tx : TxId) (ids : List TxId) → RisesFrom id ids → has ids tx ≡ true → is_below id tx ≡ true
behind id tx [] rises there = absurd cc
behind id tx (next ∷ ids) rises there =
    elim (cases_Bool (bytes_eq next.0 tx.0)) [
      | inl same ↦ ap (is_below id) (sym (same_is next tx same)) ∙ rises.0
      | inr other ↦ below_trans id next tx rises.0 (behind next tx ids rises.1 (later (bytes_eq next.0 tx.0) (has ids tx) other there))
    ]

from_there : (a : TxId) (ids : List TxId) → RisesFrom a ids → IsRising ids
from_there a [] rises = tt
from_there a (b ∷ ids) rises = rises.1

there_already : (tx : TxId) (ids : List TxId) → IsRising ids → has ids tx ≡ true → with_tx tx ids ≡ ids
there_already tx [] rises there = absurd cc
there_already tx (id ∷ ids) rises there =
    elim (cases_Bool (bytes_eq id.0 tx.0)) [
      | inl same ↦
          let one : id ≡ tx = same_is id tx same in
          let low : is_below id tx ≡ false = ap (λ (t : TxId). is_below t tx) one ∙ irreflexive tx in
          let high : is_below tx id ≡ false = ap (is_below tx) one ∙ irreflexive tx in
          cond-false (is_below id tx) (id ∷ with_tx tx ids) (cond (is_below tx id) (tx ∷ id ∷ ids) (id ∷ ids)) low
          ∙ cond-false (is_below tx id) (tx ∷ id ∷ ids) (id ∷ ids) high
      | inr other ↦
          let further : has ids tx ≡ true = later (bytes_eq id.0 tx.0) (has ids tx) other there in
          cond-true (is_below id tx) (id ∷ with_tx tx ids) (cond (is_below tx id) (tx ∷ id ∷ ids) (id ∷ ids)) (behind id tx ids rises further)
          ∙ ap (λ (ts : List TxId). id ∷ ts) (there_already tx ids (from_there id ids rises) further)
    ]

-- ---- so it is with amendments

pub same_has : (rows : List Amendment) (a : TxId) → has_row rows a ≡ has (ids_of rows) a
same_has [] a = refl
same_has (row ∷ rows) a = ap (λ (b : Bool). bytes_eq row.id.0 a.0 || b) (same_has rows a)

same_place : (rows : List Amendment) (a : TxId) → row_place rows a ≡ prefix_len (λ id. is_below id a) (ids_of rows)
same_place [] a = refl
same_place (row ∷ rows) a = ap (λ (n : ℕ). cond (is_below row.id a) (1 + n) 0) (same_place rows a)

ids_inserted : (rows : List Amendment) (k : ℕ) (r : Amendment) → ids_of (insert rows k r) ≡ insert (ids_of rows) k r.id
ids_inserted [] zero r = refl
ids_inserted [] (suc k) r = refl
ids_inserted (row ∷ rows) zero r = refl
ids_inserted (row ∷ rows) (suc k) r = ap (λ (ids : List TxId). row.id ∷ ids) (ids_inserted rows k r)

pub ids_with_row : (rows : List Amendment) (a : TxId) → IsRising (ids_of rows) → ids_of (with_row rows a) ≡ with_tx a (ids_of rows)
ids_with_row rows a rises =
    elim (cases_Bool (has_row rows a)) [
      | inl there ↦ ap ids_of (cond-true (has_row rows a) rows (insert rows (row_place rows a) (new_row a)) there)
          ∙ sym (there_already a (ids_of rows) rises (sym (same_has rows a) ∙ there))
      | inr new ↦ ap ids_of (cond-false (has_row rows a) rows (insert rows (row_place rows a) (new_row a)) new)
          ∙ ids_inserted rows (row_place rows a) (new_row a)
          ∙ ap (λ (n : ℕ). insert (ids_of rows) n a) (same_place rows a)
          ∙ sym (inserted a (ids_of rows) (sym (same_has rows a) ∙ new))
    ]

-- ---- ids that come later

fold_append : (ids xs ys : List TxId) → fold (λ kept tx. with_tx tx kept) ids (xs ++ ys) ≡ fold (λ kept tx. with_tx tx kept) (fold (λ kept tx. with_tx tx kept) ids xs) ys
fold_append ids [] ys = refl
fold_append ids (x ∷ xs) ys = fold_append (with_tx x ids) xs ys

pub rising_more : (xs : List TxId) (x : TxId) → rising (xs ++ x ∷ []) ≡ with_tx x (rising xs)
rising_more xs x = fold_append [] xs (x ∷ [])

pub rising_rises : (xs : List TxId) → IsRising (rising xs)
rising_rises xs = IsRising-fold [] xs tt
