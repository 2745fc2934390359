-- An exchange with each of some ids that rise.
use Rattle.std.proofs.Common.{◌≡◌, ℕ, zero, suc, ◌+◌, ◌<◌, ◌≤◌, ◌||◌, Bool, true, false, cond, List, [], ◌∷◌, ◌++◌, length, take, get_or, refl, sym, ap, subst, ◌∙◌, arith}
use Rattle.std.proofs.lemmas.List.{take_more, length-take-le}
use Rattle.std.proofs.lemmas.List.Folds.{list_any-append}
use Rattle.xl_base.specs.Sets.{is_below, RisesFrom, IsRising}
use Rattle.xl_base.specs.declared.ids.TxId.{TxId}
use Rattle.xl_disputes.specs.declared.rows.Row.{Row}
use Rattle.xl_disputes.specs.Disputes.{has}
use Rattle.xl_disputes.specs.Tallies.{Tally, held_by, exchanged, IsWithin, IsFitting, IsWhole}
use Rattle.xl_disputes.specs.Rows.{is_same, tally_of, IsIndex, with_exchange, IsExchangeable, Exchanges}
use Rattle.xl_disputes.specs.declared.rows.TheConstants.{ROWS}
use Rattle.xl_disputes.proofs.IdOrder.{below_trans, same_is, same_itself, below_other}
use Rattle.xl_disputes.proofs.Exchanging.{rises_rest, exchange_tally, exchange_length}

above_first : (a : TxId) (ids : List TxId) (i : ℕ) (d : TxId) → RisesFrom a ids → i < length ids → is_below a (get_or ids i d) ≡ true
above_first a [] i d rises within = absurd (omega (arith, within))
above_first a (b ∷ ids) zero d rises within = rises.0
above_first a (b ∷ ids) (suc i) d rises within = below_trans a b (get_or ids i d) rises.0 (above_first b ids i d rises.1 (omega (arith, within)))

-- no id stands before itself
fresh : (ids : List TxId) (i : ℕ) (d : TxId) → IsRising ids → i < length ids → has (take i ids) (get_or ids i d) ≡ false
fresh [] i d rises within = absurd (omega (arith, within))
fresh (a ∷ ids) zero d rises within = refl
fresh (a ∷ ids) (suc i) d rises within =
    let few : i < length ids = omega (arith, within) in
    rw (below_other a (get_or ids i d) (above_first a ids i d rises few)) (fresh ids i d (rises_rest a ids rises) few)

pub has_it : (ids : List TxId) (i : ℕ) (d : TxId) → i < length ids → has ids (get_or ids i d) ≡ true
has_it [] i d within = absurd (omega (arith, within))
has_it (a ∷ ids) zero d within = rw (same_itself a) refl
has_it (a ∷ ids) (suc i) d within = either (is_same a (get_or ids i d)) (has_it ids i d (omega (arith, within)))
  where
    either : (b : Bool) → has ids (get_or ids i d) ≡ true → (b || has ids (get_or ids i d)) ≡ true
    either true more = refl
    either false more = more

or_false : (b : Bool) → (b || false) ≡ b
or_false true = refl
or_false false = refl

has_more : (ids : List TxId) (i : ℕ) (x d t : TxId) → i < length ids → x ≡ get_or ids i d → has (take (i + 1) ids) t ≡ (has (take i ids) t || is_same x t)
has_more ids i x d t within at =
    ap (λ xs. has xs t) (take_more ids i d within ∙ ap (λ y. take i ids ++ y ∷ []) (sym at))
    ∙ list_any-append (λ id. is_same id t) (take i ids) (x ∷ [])
    ∙ ap (λ b. has (take i ids) t || b) (or_false (is_same x t))

module _ (old mid new : List Row) (ids : List TxId) (i : ℕ) (x d : TxId) (from to : Tally) (rises : IsRising ids) (can : IsExchangeable old ids from to) (within : i < length ids) (at : x ≡ get_or ids i d) (before : Exchanges old mid (take i ids) from to) where
  in_ids : has ids x ≡ true
  in_ids = ap (has ids) at ∙ has_it ids i d within

  -- it has what it had
  as_before : tally_of old x ≡ tally_of mid x
  as_before =
      let none : has (take i ids) x ≡ false = ap (has (take i ids)) at ∙ fresh ids i d rises within in
      sym (before.each x ∙ ap (λ b. cond b (exchanged from to (tally_of old x)) (tally_of old x)) none)

  pub can_within : IsWithin from (tally_of mid x)
  can_within = subst (IsWithin from) as_before (can.within x in_ids)

  pub can_fit : IsFitting (exchanged from to (tally_of mid x))
  can_fit = subst (λ t. IsFitting (exchanged from to t)) as_before (can.fitting x in_ids)

  can_be_whole : IsWhole (exchanged from to (tally_of mid x))
  can_be_whole = subst (λ t. IsWhole (exchanged from to t)) as_before (can.whole x in_ids)

  so_far : length (take i ids) ≡ i
  so_far = length-take-le i ids (omega (arith, within))

  few_so_far : length mid ≤ length old + i
  few_so_far = subst (λ n. length mid ≤ length old + n) so_far before.few

  pub can_have_room : held_by from ≡ 0 → length mid < ROWS
  can_have_room none = omega (arith, few_so_far, can.room none, within)

  module _ (exact : new ≡ with_exchange x from to mid) (index : IsIndex new) where
    one : (t : TxId) → tally_of new t ≡ cond (is_same x t) (exchanged from to (tally_of mid x)) (tally_of mid t)
    one t = ap (λ rows. tally_of rows t) exact ∙ exchange_tally x t from to mid before.index.rising can_be_whole

    both : (t : TxId) (b s : Bool) → s ≡ is_same x t → b ≡ has (take i ids) t →
        cond s (exchanged from to (tally_of mid x)) (tally_of mid t) ≡ cond (b || s) (exchanged from to (tally_of old t)) (tally_of old t)
    both t true true is seen = ap (λ y. exchanged from to y) (sym as_before ∙ ap (tally_of old) (same_is x t (sym is)))
    both t false true is seen = ap (λ y. exchanged from to y) (sym as_before ∙ ap (tally_of old) (same_is x t (sym is)))
    both t true false is seen = before.each t ∙ ap (λ b. cond b (exchanged from to (tally_of old t)) (tally_of old t)) (sym seen)
    both t false false is seen = before.each t ∙ ap (λ b. cond b (exchanged from to (tally_of old t)) (tally_of old t)) (sym seen)

    pub exchanges_more : Exchanges old new (take (i + 1) ids) from to
    exchanges_more = record {
      index = index;
      each = λ t.
          one t ∙ both t (has (take i ids) t) (is_same x t) refl refl
          ∙ ap (λ b. cond b (exchanged from to (tally_of old t)) (tally_of old t)) (sym (has_more ids i x d t within at));
      few =
          let now : length (take (i + 1) ids) ≡ i + 1 = length-take-le (i + 1) ids (omega (arith, within)) in
          omega (arith, now, few_so_far, ap length exact, exchange_length x from to mid);
    }
