-- Ids that rise are told by what they have.
use Rattle.std.proofs.Common.{◌≡◌, ◌+◌, ◌≤◌, ◌||◌, ◌&&◌, Bool, true, false, cond, List, [], ◌∷◌, length, arith, refl, sym, ap, subst, ◌∙◌}
use Rattle.std.specs.Prelude.{fold, filter}
use Rattle.std.proofs.lemmas.Bool.{cond_both}
use Rattle.std.proofs.lemmas.Map.Views.{any-filter_same}
use Rattle.xl_base.specs.Sets.{is_below, RisesFrom, IsRising}
use Rattle.xl_base.specs.declared.ids.TxId.{TxId}
use Rattle.xl_disputes.specs.Disputes.{has}
use Rattle.xl_disputes.specs.Rising.{with_tx, rising}
use Rattle.xl_disputes.specs.Rows.{is_same}
use Rattle.xl_disputes.proofs.IdOrder.{neither_below, same_itself, same_is, above_other}
use Rattle.xl_disputes.proofs.Exchanging.{RisesFrom-lower, rises_rest}

-- an id below others is not among them
pub not_among : (a : TxId) (ids : List TxId) → RisesFrom a ids → has ids a ≡ false
not_among a [] rises = refl
not_among a (b ∷ ids) rises = rw (above_other a b rises.0) (not_among a ids (RisesFrom-lower a b ids rises.0 rises.1))

has_head : (a : TxId) (ids : List TxId) → has (a ∷ ids) a ≡ true
has_head a ids = rw (same_itself a) refl

same_head : (a b : TxId) (xs ys : List TxId) → IsRising (a ∷ xs) → IsRising (b ∷ ys) → ((t : TxId) → has (a ∷ xs) t ≡ has (b ∷ ys) t) → a ≡ b
same_head a b xs ys left right same = neither_below a b (not_first (is_below a b) refl) (not_second (is_below b a) refl)
  where
    not_first : (r : Bool) → r ≡ is_below a b → r ≡ false
    not_first true is = absurd (cc (sym (has_head a xs) ∙ same a ∙ not_among a (b ∷ ys) (sym is, right)))
    not_first false is = refl

    not_second : (r : Bool) → r ≡ is_below b a → r ≡ false
    not_second true is = absurd (cc (sym (has_head b ys) ∙ sym (same b) ∙ not_among b (a ∷ xs) (sym is, left)))
    not_second false is = refl

same_rest : (a : TxId) (xs ys : List TxId) → RisesFrom a xs → RisesFrom a ys → ((t : TxId) → has (a ∷ xs) t ≡ has (a ∷ ys) t) → (t : TxId) → has xs t ≡ has ys t
same_rest a xs ys left right same t = rest (is_same a t) refl (same t)
  where
    rest : (r : Bool) → r ≡ is_same a t → (r || has xs t) ≡ (r || has ys t) → has xs t ≡ has ys t
    rest true is both = subst (λ x. has xs x ≡ has ys x) (same_is a t (sym is)) (not_among a xs left ∙ sym (not_among a ys right))
    rest false is both = both

pub same_ids : (xs ys : List TxId) → IsRising xs → IsRising ys → ((t : TxId) → has xs t ≡ has ys t) → xs ≡ ys
same_ids [] [] left right same = refl
same_ids [] (b ∷ ys) left right same = absurd (cc (same b ∙ has_head b ys))
same_ids (a ∷ xs) [] left right same = absurd (cc (sym (same a) ∙ has_head a xs))
same_ids (a ∷ xs) (b ∷ ys) left right same =
    let one : a ≡ b = same_head a b xs ys left right same in
    let right' : RisesFrom a ys = subst (λ x. RisesFrom x ys) (sym one) right in
    let same' : (t : TxId) → has (a ∷ xs) t ≡ has (a ∷ ys) t = subst (λ x. (t : TxId) → has (a ∷ xs) t ≡ has (x ∷ ys) t) (sym one) same in
    ap (λ x. x ∷ xs) one ∙ ap (λ zs. b ∷ zs) (same_ids xs ys (rises_rest a xs left) (rises_rest a ys right') (same_rest a xs ys left right' same'))

-- ---- what has what

with_step : (below above : Bool) (tx id t : TxId) (ids : List TxId) → below ≡ is_below id tx → above ≡ is_below tx id → has (with_tx tx ids) t ≡ (is_same tx t || has ids t) →
    has (cond below (id ∷ with_tx tx ids) (cond above (tx ∷ id ∷ ids) (id ∷ ids))) t ≡ (is_same tx t || (is_same id t || has ids t))
with_step true above tx id t ids lower higher more = ap (λ b. is_same id t || b) more ∙ swapped (is_same id t) (is_same tx t) (has ids t)
  where
    swapped : (a b c : Bool) → (a || (b || c)) ≡ (b || (a || c))
    swapped true true c = refl
    swapped true false c = refl
    swapped false true c = refl
    swapped false false c = refl
with_step false true tx id t ids lower higher more = refl
with_step false false tx id t ids lower higher more =
    let one : id ≡ tx = neither_below id tx (sym lower) (sym higher) in
    twice (is_same id t) (is_same tx t) (has ids t) (ap (λ x. is_same x t) one)
  where
    twice : (a b c : Bool) → a ≡ b → (a || c) ≡ (b || (a || c))
    twice true true c is = refl
    twice true false c is = absurd (cc is)
    twice false true c is = absurd (cc is)
    twice false false c is = refl

has_with : (tx t : TxId) (ids : List TxId) → has (with_tx tx ids) t ≡ (is_same tx t || has ids t)
has_with tx t [] = refl
has_with tx t (id ∷ ids) = with_step (is_below id tx) (is_below tx id) tx id t ids refl refl (has_with tx t ids)

has_fold : (t : TxId) (ids txs : List TxId) → has (fold (λ kept tx. with_tx tx kept) ids txs) t ≡ (has ids t || has txs t)
has_fold t ids [] = sym (or_false (has ids t))
  where
    or_false : (b : Bool) → (b || false) ≡ b
    or_false true = refl
    or_false false = refl
has_fold t ids (tx ∷ txs) = has_fold t (with_tx tx ids) txs ∙ ap (λ b. b || has txs t) (has_with tx t ids) ∙ moved (is_same tx t) (has ids t) (has txs t)
  where
    moved : (a b c : Bool) → ((a || b) || c) ≡ (b || (a || c))
    moved true true c = refl
    moved true false c = refl
    moved false true c = refl
    moved false false c = refl

pub has_rising : (t : TxId) (txs : List TxId) → has (rising txs) t ≡ has txs t
has_rising t txs = has_fold t [] txs

-- the different ids are no more than all

with_length : (tx : TxId) (ids : List TxId) → length (with_tx tx ids) ≤ length ids + 1
with_length tx [] = omega arith
with_length tx (id ∷ ids) =
    cond_both (is_below id tx) (id ∷ with_tx tx ids) (cond (is_below tx id) (tx ∷ id ∷ ids) (id ∷ ids)) P (λ _. omega (arith, with_length tx ids))
    (λ _. cond_both (is_below tx id) (tx ∷ id ∷ ids) (id ∷ ids) P (λ _. omega arith) (λ _. omega arith))
  where
    P : List TxId → Type 0
    P xs = length xs ≤ length (id ∷ ids) + 1

length_fold : (ids txs : List TxId) → length (fold (λ kept tx. with_tx tx kept) ids txs) ≤ length ids + length txs
length_fold ids [] = omega arith
length_fold ids (tx ∷ txs) = omega (arith, length_fold (with_tx tx ids) txs, with_length tx ids)

pub rising_length : (txs : List TxId) → length (rising txs) ≤ length txs
rising_length txs = omega (arith, length_fold [] txs)

pub has_filter : (p : TxId → Bool) (t : TxId) (ids : List TxId) → has (filter p ids) t ≡ (p t && has ids t)
has_filter p t ids = any-filter_same (λ id. is_same id t) p (p t) (λ id same. ap p (same_is id t same)) ids

-- what passes a test rises
filter-RisesFrom : (p : TxId → Bool) (a : TxId) (ids : List TxId) → RisesFrom a ids → RisesFrom a (filter p ids)
filter-RisesFrom p a [] rises = tt
filter-RisesFrom p a (b ∷ ids) rises =
    cond_both (p b) (b ∷ filter p ids) (filter p ids) (RisesFrom a)
    (λ _. (rises.0, filter-RisesFrom p b ids rises.1)) (λ _. RisesFrom-lower a b (filter p ids) rises.0 (filter-RisesFrom p b ids rises.1))

pub filter-IsRising : (p : TxId → Bool) (ids : List TxId) → IsRising ids → IsRising (filter p ids)
filter-IsRising p [] rises = tt
filter-IsRising p (a ∷ ids) rises =
    cond_both (p a) (a ∷ filter p ids) (filter p ids) IsRising (λ _. filter-RisesFrom p a ids rises) (λ _. rises_rest a (filter p ids) (filter-RisesFrom p a ids rises))
