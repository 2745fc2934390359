-- Ids that rise are walked by passing over those below another id.
use Rattle.std.proofs.Common.{◌≡◌, ℕ, zero, suc, ◌+◌, ◌||◌, Bool, true, false, cond, List, [], ◌∷◌, drop, refl, sym, ap, ◌∙◌, arith}
use Rattle.std.specs.List.{prefix_len}
use Rattle.std.specs.Str.{bytes_eq}
use Rattle.xl_base.specs.Sets.{is_below, RisesFrom, IsRising}
use Rattle.xl_base.specs.declared.ids.TxId.{TxId}
use Rattle.xl_disputes.specs.Disputes.{has}
use Rattle.xl_disputes.specs.Rows.{not_below, is_first}
use Rattle.xl_disputes.proofs.IdOrder.{neither_below, same_itself, same_is}
use Rattle.xl_disputes.proofs.Exchanging.{RisesFrom-lower, rises_rest}
use Rattle.xl_disputes.proofs.Extending.{not_among}

pub drop_rises : (n : ℕ) (ids : List TxId) → IsRising ids → IsRising (drop n ids)
drop_rises zero ids rises = rises
drop_rises (suc n) [] rises = tt
drop_rises (suc n) (id ∷ ids) rises = drop_rises n ids (rises_rest id ids rises)

-- of two different ids one is below the other
pub is_above : (id tx : TxId) (low : Bool) → low ≡ is_below tx id → is_below id tx ≡ false → bytes_eq id.0 tx.0 ≡ false → low ≡ true
is_above id tx true is high other = refl
is_above id tx false is high other = absurd (cc (sym other ∙ ap (λ (t : TxId). bytes_eq t.0 tx.0) (neither_below id tx high (sym is)) ∙ same_itself tx))

-- ids that rise from one have nothing below it
pub not_lower : (tx t : TxId) (ids : List TxId) (low : Bool) → low ≡ is_below t tx → RisesFrom tx ids → has (tx ∷ ids) t ≡ true → low ≡ false
not_lower tx t ids true is rises among = absurd (cc (sym among ∙ not_among t (tx ∷ ids) (sym is, rises)))
not_lower tx t ids false is rises among = refl

differs : (tx t id : TxId) (same : Bool) → same ≡ bytes_eq id.0 t.0 → is_below id tx ≡ true → is_below t tx ≡ false → same ≡ false
differs tx t id true is low high = absurd (cc (sym low ∙ ap (λ x. is_below x tx) (same_is id t (sym is)) ∙ high))
differs tx t id false is low high = refl

-- passing over what is below one loses nothing else
pub passed : (tx t : TxId) (ids : List TxId) → is_below t tx ≡ false → has (not_below tx ids) t ≡ has ids t
passed tx t [] high = refl
passed tx t (id ∷ ids) high = step (is_below id tx) refl (passed tx t ids high)
  where
    step : (low : Bool) → low ≡ is_below id tx → has (not_below tx ids) t ≡ has ids t → has (drop (cond low (1 + prefix_len (λ x. is_below x tx) ids) 0) (id ∷ ids)) t ≡ has (id ∷ ids) t
    step true is more =
        let next : 1 + prefix_len (λ x. is_below x tx) ids ≡ suc (prefix_len (λ x. is_below x tx) ids) = omega arith in
        ap (λ n. has (drop n (id ∷ ids)) t) next ∙ more ∙ ap (λ b. b || has ids t) (sym (differs tx t id (bytes_eq id.0 t.0) refl (sym is) high))
    step false is more = refl

-- and the one then comes first, if it is there
pub found : (tx : TxId) (ids : List TxId) → IsRising ids → has (not_below tx ids) tx ≡ is_first tx (not_below tx ids)
found tx [] rises = refl
found tx (id ∷ ids) rises = step (is_below id tx) refl (found tx ids (rises_rest id ids rises))
  where
    alone : (same : Bool) → same ≡ bytes_eq id.0 tx.0 → is_below id tx ≡ false → (same || has ids tx) ≡ same
    alone true is high = refl
    alone false is high = not_among tx ids (RisesFrom-lower tx id ids (is_above id tx (is_below tx id) refl high (sym is)) rises)

    step : (low : Bool) → low ≡ is_below id tx → has (not_below tx ids) tx ≡ is_first tx (not_below tx ids) →
        has (drop (cond low (1 + prefix_len (λ x. is_below x tx) ids) 0) (id ∷ ids)) tx ≡ is_first tx (drop (cond low (1 + prefix_len (λ x. is_below x tx) ids) 0) (id ∷ ids))
    step true is more =
        let next : 1 + prefix_len (λ x. is_below x tx) ids ≡ suc (prefix_len (λ x. is_below x tx) ids) = omega arith in
        ap (λ n. has (drop n (id ∷ ids)) tx) next ∙ more ∙ ap (λ n. is_first tx (drop n (id ∷ ids))) (sym next)
    step false is more = alone (bytes_eq id.0 tx.0) refl (sym is)
