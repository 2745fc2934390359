-- What the code makes of the index and of a holding that it changes.
use Rattle.std.proofs.Common.{◌≡◌, ℕ, zero, suc, ◌<◌, ◌≤◌, true, false, cond, List, [], ◌∷◌, length, map, set, get_or, refl, sym, ap, subst, ◌∙◌, arith}
use Rattle.std.specs.Prelude.{All, Some, None, flat_map}
use Rattle.std.proofs.lemmas.List.Elements.{All-nil, All-cons, All-get_or}
use Rattle.xl_base.specs.Sets.{IsRising, IsSet}
use Rattle.xl_base.specs.declared.ids.TxId.{TxId}
use Rattle.xl_disputes.specs.declared.rows.Row.{Row}
use Rattle.xl_disputes.specs.Disputes.{has}
use Rattle.xl_disputes.specs.Tallies.{Tally, no_tally, held_by}
use Rattle.xl_disputes.specs.Rows.{IsExchangeable, Exchanges, IsMovable, Moves}
use Rattle.xl_disputes.specs.Holdings.{Holding, no_holding, member_bits, empty_own, no_holdings, changed, with_set, with_weight, ids_in, tally_from, IsShared}
use Rattle.xl_disputes.specs.declared.shares.TheConstants.{PLACES}
use Rattle.xl_disputes.proofs.Sharing.{part, can_release, can_weigh, can_fill, can_replace, weight_most, still_shared, still_shared_with}

-- a change in place
set_changed' : (f : Holding → Holding) (hs : List Holding) (place : ℕ) (d : Holding) → place < length hs → set hs place (f (get_or hs place d)) ≡ changed f place hs
set_changed' f [] place d within = absurd (omega (arith, within))
set_changed' f (h ∷ hs) zero d within = refl
set_changed' f (h ∷ hs) (suc place) d within = ap (λ xs. h ∷ xs) (set_changed' f hs place d (omega (arith, within)))

pub set_changed : (f : Holding → Holding) (hs now : List Holding) (place : ℕ) (h h' : Holding) → length hs ≡ PLACES → place < PLACES → h ≡ get_or hs place h → h' ≡ f h → hs ≡ now →
    set hs place h' ≡ changed f place now
set_changed f hs now place h h' count there at is view =
    ap (set hs place) (is ∙ ap f at) ∙ set_changed' f hs place h (omega (arith, there, count)) ∙ ap (changed f place) view

module _ (hs : List Holding) (rows : List Row) (shared : IsShared hs rows) (place : ℕ) (h : Holding) (there : place < PLACES) (at : h ≡ get_or hs place h) where
  pub may_release : (ids : List TxId) (from to : Tally) → ids ≡ ids_in h → from ≡ tally_from h → to ≡ no_tally → IsExchangeable rows ids from to
  may_release ids from to ids_is from_is to_is =
      subst (λ x. IsExchangeable rows x from to) (sym ids_is) (subst (λ x. IsExchangeable rows (ids_in h) x to) (sym from_is)
      (subst (λ x. IsExchangeable rows (ids_in h) (tally_from h) x) (sym to_is) (can_release hs rows shared place h h there at)))

  exchanged_as : (new : List Row) (ids ids' : List TxId) (from from' to to' : Tally) → ids ≡ ids' → from ≡ from' → to ≡ to' → Exchanges rows new ids from to → Exchanges rows new ids' from' to'
  exchanged_as new ids ids' from from' to to' ids_is from_is to_is done =
      subst (λ x. Exchanges rows new x from' to') ids_is (subst (λ x. Exchanges rows new ids x to') from_is (subst (λ x. Exchanges rows new ids from x) to_is done))

  -- an id of its set has its tally, and another nothing
  its : (tx : TxId) → has (ids_in h) tx ≡ true → part h tx ≡ tally_from h
  its tx in_it = ap (λ b. cond b (tally_from h) no_tally) in_it

  not_its : (tx : TxId) → has (ids_in h) tx ≡ false → part h tx ≡ no_tally
  not_its tx out = ap (λ b. cond b (tally_from h) no_tally) out

  set_in : IsSet (ids_in h)
  set_in = subst (λ (x : Holding). IsSet (ids_in x)) (sym at) (All-get_or (λ x. IsSet (ids_in x)) hs place h (omega (arith, there, shared.count)) shared.sets)

  pub released : (new : List Row) (ids : List TxId) (from to : Tally) (h' : Holding) → ids ≡ ids_in h → from ≡ tally_from h → to ≡ no_tally → Exchanges rows new ids from to →
      h' ≡ with_set None h → IsShared (set hs place h') new
  released new ids from to h' ids_is from_is to_is done is =
      subst (λ x. IsShared (set hs place x) new) (sym is)
      (still_shared hs rows shared place h h there at new (ids_in h) (tally_from h) no_tally (with_set None h)
      (exchanged_as new ids (ids_in h) from (tally_from h) to no_tally ids_is from_is to_is done)
      (λ tx in_it. (its tx in_it, refl)) not_its (record { rising = tt; at_most = omega arith }) (weight_most hs rows shared place h h there at) refl)

  pub may_weigh : (ids : List TxId) (from to : Tally) (h' : Holding) (weight : ℕ) → weight ≤ 64 → from ≡ tally_from h → h' ≡ with_weight weight h → ids ≡ ids_in h' → to ≡ tally_from h' → IsExchangeable rows ids from to
  may_weigh ids from to h' weight few from_is is ids_is to_is =
      subst (λ x. IsExchangeable rows x from to) (sym (ids_is ∙ ap ids_in is)) (subst (λ x. IsExchangeable rows (ids_in h) x to) (sym from_is)
      (subst (λ x. IsExchangeable rows (ids_in h) (tally_from h) x) (sym (to_is ∙ ap tally_from is)) (can_weigh hs rows shared place h h there at weight few)))

  pub weighed : (new : List Row) (ids : List TxId) (from to : Tally) (h' : Holding) (weight : ℕ) → weight ≤ 64 → from ≡ tally_from h → h' ≡ with_weight weight h → ids ≡ ids_in h' → to ≡ tally_from h' →
      Exchanges rows new ids from to → IsShared (set hs place h') new
  weighed new ids from to h' weight few from_is is ids_is to_is done =
      subst (λ x. IsShared (set hs place x) new) (sym is)
      (still_shared hs rows shared place h h there at new (ids_in h) (tally_from h) (tally_from (with_weight weight h)) (with_weight weight h)
      (exchanged_as new ids (ids_in h) from (tally_from h) to (tally_from (with_weight weight h)) (ids_is ∙ ap ids_in is) from_is (to_is ∙ ap tally_from is) done)
      (λ tx in_it. (its tx in_it, ap (λ b. cond b (tally_from (with_weight weight h)) no_tally) in_it))
      (λ tx out. not_its tx out ∙ ap (λ b. cond b (tally_from (with_weight weight h)) no_tally) (sym out)) set_in few refl)

  pub may_fill : (ids : List TxId) (from to : Tally) → ids_in h ≡ [] → IsSet ids → from ≡ no_tally → to ≡ tally_from h → IsExchangeable rows ids from to
  may_fill ids from to free valid from_is to_is =
      subst (λ x. IsExchangeable rows ids x to) (sym from_is)
      (subst (λ x. IsExchangeable rows ids no_tally x) (sym to_is) (can_fill hs rows shared place h h there at ids free valid))

  module _ (ids : List TxId) (valid : IsSet ids) (counted : (tx : TxId) → has ids tx ≡ true → has (flat_map ids_in hs) tx ≡ true) (old : List TxId) (old_is : old ≡ ids_in h) (part' : Tally) (part_is : part' ≡ tally_from h) where
    pub may_replace : IsMovable rows old ids part'
    may_replace =
        subst (λ x. IsMovable rows x ids part') (sym old_is)
        (subst (λ x. IsMovable rows (ids_in h) ids x) (sym part_is) (can_replace hs rows shared place h h there at ids valid counted))

    pub replaced : (new : List Row) (h' : Holding) → Moves rows new old ids part' → h' ≡ with_set (Some ids) h → IsShared (set hs place h') new
    replaced new h' moves is =
        subst (λ x. IsShared (set hs place x) new) (sym is)
        (still_shared_with hs rows shared place h h there at ids valid counted new
        (subst (λ x. Moves rows new (ids_in h) ids x) part_is (subst (λ x. Moves rows new x ids part') old_is moves)))

    pub leaving_rises : IsRising old
    leaving_rises = subst IsRising (sym old_is) set_in.rising

  nothing_in : (tx : TxId) → ids_in h ≡ [] → part h tx ≡ no_tally
  nothing_in tx free = ap (λ xs. cond (has xs tx) (tally_from h) no_tally) free

  pub filled : (new : List Row) (ids : List TxId) (from to : Tally) (h' : Holding) → ids_in h ≡ [] → IsSet ids → from ≡ no_tally → to ≡ tally_from h → Exchanges rows new ids from to →
      h' ≡ with_set (Some ids) h → IsShared (set hs place h') new
  filled new ids from to h' free valid from_is to_is done is =
      subst (λ x. IsShared (set hs place x) new) (sym is)
      (still_shared hs rows shared place h h there at new ids no_tally (tally_from h) (with_set (Some ids) h)
      (exchanged_as new ids ids from no_tally to (tally_from h) refl from_is to_is done)
      (λ tx in_it. (nothing_in tx free, ap (λ b. cond b (tally_from h) no_tally) in_it))
      (λ tx out. nothing_in tx free ∙ ap (λ b. cond b (tally_from h) no_tally) (sym out)) valid (weight_most hs rows shared place h h there at)
      refl)

-- ---- the first holdings

none_set : (bits : List ℕ) → All (λ h. IsSet (ids_in h)) (map no_holding bits)
none_set [] = All-nil (λ h. IsSet (ids_in h))
none_set (bit ∷ bits) = All-cons (λ h. IsSet (ids_in h)) (no_holding bit) (map no_holding bits) (record { rising = tt; at_most = omega arith }) (none_set bits)

none_weighs : (bits : List ℕ) → All (λ h. h.weight ≤ 64) (map no_holding bits)
none_weighs [] = All-nil (λ h. h.weight ≤ 64)
none_weighs (bit ∷ bits) = All-cons (λ h. h.weight ≤ 64) (no_holding bit) (map no_holding bits) (omega arith) (none_weighs bits)

pub first_shared : (hs : List Holding) (rows : List Row) → hs ≡ no_holdings → rows ≡ [] → IsShared hs rows
first_shared hs rows hs_is rows_is =
    subst (λ x. IsShared x rows) (sym hs_is) (subst (IsShared no_holdings) (sym rows_is) (record {
      count = refl;
      sets = All-cons (λ h. IsSet (ids_in h)) empty_own (map no_holding member_bits) (record { rising = tt; at_most = omega arith }) (none_set member_bits);
      few = All-cons (λ h. h.weight ≤ 64) empty_own (map no_holding member_bits) (omega arith) (none_weighs member_bits);
      bits = omega arith;
      index = record { rising = tt; counted = All-nil (λ (row : Row). 0 < held_by row.tally) };
      each = λ tx. refl;
    }))
