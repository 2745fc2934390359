-- Ids stay rising if one is put at its place, or some are taken out.
use Rattle.std.proofs.Common.{◌≡◌, ℕ, ◌+◌, ◌≤◌, suc, Bool, true, false, cond, List, [], ◌∷◌, length, arith, ap, sym, ◌∙◌, refl}
use Rattle.std.specs.Prelude.{filter, insert}
use Rattle.std.specs.List.{prefix_len, list_any}
use Rattle.std.specs.Str.{bytes_eq}
use Rattle.std.proofs.lemmas.Bool.{cond_both, or_parts}
use Rattle.std.proofs.lemmas.List.Sums.{length-filter, count_by-le-length}
use Rattle.xl_base.specs.Sets.{is_below, IsSet}
use Rattle.xl_base.specs.declared.ids.TxId.{TxId}
use Rattle.xl_disputes.specs.Disputes.{has}
use Rattle.xl_disputes.specs.Rising.{with_tx}
use Rattle.xl_disputes.proofs.Passing.{is_above}
use Rattle.xl_disputes.proofs.RisingIds.{IsRising-with_tx}
use Rattle.xl_disputes.proofs.Extending.{filter-IsRising}

-- an id that isn't there comes to its place
pub with_tx-inserted : (tx : TxId) (ids : List TxId) → has ids tx ≡ false → with_tx tx ids ≡ insert ids (prefix_len (λ id. is_below id tx) ids) tx
with_tx-inserted tx [] new = refl
with_tx-inserted tx (id ∷ ids) new =
    let parts = or_parts (bytes_eq id.0 tx.0) (list_any (λ other. bytes_eq other.0 tx.0) ids) new in
    step (is_below id tx) refl parts.0 (with_tx-inserted tx ids parts.1)
  where
    step : (below : Bool) → is_below id tx ≡ below → bytes_eq id.0 tx.0 ≡ false → with_tx tx ids ≡ insert ids (prefix_len (λ other. is_below other tx) ids) tx →
        cond below (id ∷ with_tx tx ids) (cond (is_below tx id) (tx ∷ id ∷ ids) (id ∷ ids)) ≡ insert (id ∷ ids) (cond below (1 + prefix_len (λ other. is_below other tx) ids) 0) tx
    step true is other more =
        let later : 1 + prefix_len (λ other. is_below other tx) ids ≡ suc (prefix_len (λ other. is_below other tx) ids) = omega arith in
        ap (λ ts. id ∷ ts) more ∙ sym (ap (λ n. insert (id ∷ ids) n tx) later)
    step false is other more = ap (λ b. cond b (tx ∷ id ∷ ids) (id ∷ ids)) (is_above id tx (is_below tx id) refl is other)

-- what the code does with an id that it doesn't find
pub submitted : (tx : TxId) (ids first second new : List TxId) (place : ℕ) (among : Bool) → first ≡ ids → second ≡ ids →
    among ≡ has first tx → among ≡ false → place ≡ prefix_len (λ id. is_below id tx) second → new ≡ insert ids place tx → new ≡ with_tx tx ids
submitted tx ids first second new place among shown shown' is not_there here done =
    let absent : has ids tx ≡ false = ap (λ xs. has xs tx) (sym shown) ∙ sym is ∙ not_there in
    done ∙ ap (λ n. insert ids n tx) (here ∙ ap (λ xs. prefix_len (λ id. is_below id tx) xs) shown') ∙ sym (with_tx-inserted tx ids absent)

length-with_tx : (tx : TxId) (ids : List TxId) → length (with_tx tx ids) ≤ length ids + 1
length-with_tx tx [] = omega arith
length-with_tx tx (id ∷ ids) =
    cond_both (is_below id tx) (id ∷ with_tx tx ids) (cond (is_below tx id) (tx ∷ id ∷ ids) (id ∷ ids)) (λ txs. length txs ≤ length (id ∷ ids) + 1)
    (λ _. omega (arith, length-with_tx tx ids))
    (λ _. cond_both (is_below tx id) (tx ∷ id ∷ ids) (id ∷ ids) (λ txs. length txs ≤ length (id ∷ ids) + 1) (λ _. omega arith) (λ _. omega arith))

-- with one id more it is a set, if there is room
pub IsSet-with_tx : (tx : TxId) (ids : List TxId) → IsSet ids → length ids + 1 ≤ 256 → IsSet (with_tx tx ids)
IsSet-with_tx tx ids set fits = record { rising = IsRising-with_tx tx ids set.rising; at_most = omega (arith, length-with_tx tx ids) }

-- some ids of a set are a set
pub IsSet-filter : (p : TxId → Bool) (ids : List TxId) → IsSet ids → IsSet (filter p ids)
IsSet-filter p ids set = record { rising = filter-IsRising p ids set.rising; at_most = omega (arith, length-filter p ids, count_by-le-length p ids, set.at_most) }
