-- The ids of a list in rising order, and the lowest of them.
use Rattle.std.proofs.Common.{◌≡◌, ℕ, zero, suc, ◌+◌, ◌≤◌, ◌<◌, cond, List, [], ◌∷◌, length, take, get_or, arith, subst, ◌-◌}
use Rattle.std.specs.Prelude.{fold, IsTrue}
use Rattle.std.proofs.lemmas.Bool.{cond_both}
use Rattle.xl_base.specs.Sets.{is_below, RisesFrom, IsRising, IsSet}
use Rattle.xl_base.specs.declared.ids.TxId.{TxId}
use Rattle.xl_disputes.specs.Rising.{with_tx, rising, lowest}

-- ids stay rising
pub RisesFrom-with_tx : (a tx : TxId) (ids : List TxId) → IsTrue (is_below a tx) → RisesFrom a ids → RisesFrom a (with_tx tx ids)
RisesFrom-with_tx a tx [] low rises = (low, tt)
RisesFrom-with_tx a tx (id ∷ ids) low rises =
    cond_both (is_below id tx) (id ∷ with_tx tx ids) (cond (is_below tx id) (tx ∷ id ∷ ids) (id ∷ ids)) (RisesFrom a)
    (λ later. (rises.0, RisesFrom-with_tx id tx ids later rises.1))
    (λ _. cond_both (is_below tx id) (tx ∷ id ∷ ids) (id ∷ ids) (RisesFrom a) (λ before. (low, (before, rises.1))) (λ _. rises))

pub IsRising-with_tx : (tx : TxId) (ids : List TxId) → IsRising ids → IsRising (with_tx tx ids)
IsRising-with_tx tx [] rises = tt
IsRising-with_tx tx (id ∷ ids) rises =
    cond_both (is_below id tx) (id ∷ with_tx tx ids) (cond (is_below tx id) (tx ∷ id ∷ ids) (id ∷ ids)) IsRising
    (λ later. RisesFrom-with_tx id tx ids later rises)
    (λ _. cond_both (is_below tx id) (tx ∷ id ∷ ids) (id ∷ ids) IsRising (λ before. (before, rises)) (λ _. rises))

pub IsRising-fold : (ids txs : List TxId) → IsRising ids → IsRising (fold (λ kept tx. with_tx tx kept) ids txs)
IsRising-fold ids [] rises = rises
IsRising-fold ids (tx ∷ txs) rises = IsRising-fold (with_tx tx ids) txs (IsRising-with_tx tx ids rises)

RisesFrom-take : (n : ℕ) (a : TxId) (ids : List TxId) → RisesFrom a ids → RisesFrom a (take n ids)
RisesFrom-take zero a ids rises = tt
RisesFrom-take (suc n) a [] rises = tt
RisesFrom-take (suc n) a (id ∷ ids) rises = (rises.0, RisesFrom-take n id ids rises.1)

IsRising-take : (n : ℕ) (ids : List TxId) → IsRising ids → IsRising (take n ids)
IsRising-take zero ids rises = tt
IsRising-take (suc n) [] rises = tt
IsRising-take (suc n) (id ∷ ids) rises = RisesFrom-take n id ids rises

length_take : (n : ℕ) (ids : List TxId) → length (take n ids) ≤ n
length_take zero ids = omega arith
length_take (suc n) [] = omega arith
length_take (suc n) (id ∷ ids) = omega (arith, length_take n ids)

-- the lowest are a set
pub IsSet-lowest : (txs : List TxId) → IsSet (lowest 256 txs)
IsSet-lowest txs = record { rising = IsRising-take 256 (rising txs) (IsRising-fold [] txs tt); at_most = length_take 256 (rising txs) }

-- one id more, which the last one is below
RisesFrom_more : (a : TxId) (ids : List TxId) (i : ℕ) (d : TxId) → i < length ids → IsTrue (is_below (get_or (a ∷ ids) i d) (get_or ids i d)) →
    RisesFrom a (take i ids) → RisesFrom a (take (suc i) ids)
RisesFrom_more a [] i d within below rises = absurd (omega (arith, within))
RisesFrom_more a (b ∷ ids) zero d within below rises = (below, tt)
RisesFrom_more a (b ∷ ids) (suc i) d within below rises = (rises.0, RisesFrom_more b ids i d (omega (arith, within)) below rises.1)

pub rises_more : (ids : List TxId) (i : ℕ) (d : TxId) → 1 ≤ i → i < length ids → IsTrue (is_below (get_or ids (i - 1) d) (get_or ids i d)) →
    IsRising (take i ids) → IsRising (take (i + 1) ids)
rises_more ids zero d some within below rises = absurd (omega (arith, some))
rises_more [] (suc i) d some within below rises = absurd (omega (arith, within))
rises_more (a ∷ ids) (suc i) d some within below rises =
    let less : suc i - 1 ≡ i = omega arith in
    let more : suc i + 1 ≡ suc (suc i) = omega arith in
    rw more (RisesFrom_more a ids i d (omega (arith, within)) (subst (λ n. IsTrue (is_below (get_or (a ∷ ids) n d) (get_or ids i d))) less below) rises)
