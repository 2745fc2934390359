-- What an exchange does to an index.
use Rattle.std.proofs.Common.{◌≡◌, ◌+◌, ◌<◌, ◌≤◌, ◌==◌, Bool, true, false, cond, List, [], ◌∷◌, length, refl, sym, ap, subst, ◌∙◌, arith}
use Rattle.std.specs.Prelude.{All}
use Rattle.std.proofs.lemmas.Bool.{cond_both}
use Rattle.std.proofs.lemmas.Bool.Decides.{nat_tests}
use Rattle.std.proofs.lemmas.List.Elements.{All-cons, All-head, All-tail}
use Rattle.xl_base.specs.Sets.{is_below, RisesFrom, IsRising}
use Rattle.xl_base.specs.declared.ids.TxId.{TxId}
use Rattle.xl_disputes.specs.declared.rows.Row.{Row}
use Rattle.xl_disputes.specs.Tallies.{Tally, no_tally, held_by, exchanged, IsWhole}
use Rattle.xl_disputes.specs.Rows.{is_same, ids_of, tally_of, IsIndex, put, with_exchange}
use Rattle.xl_disputes.proofs.IdOrder.{below_trans, neither_below, same_itself, same_is, below_other, above_other}

-- an id below the first of some is below all, and so has nothing
pub RisesFrom-lower : (a b : TxId) (ids : List TxId) → is_below a b ≡ true → RisesFrom b ids → RisesFrom a ids
RisesFrom-lower a b [] low rises = tt
RisesFrom-lower a b (c ∷ ids) low rises = (below_trans a b c low rises.0, rises.1)

pub rises_rest : (a : TxId) (ids : List TxId) → RisesFrom a ids → IsRising ids
rises_rest a [] rises = tt
rises_rest a (b ∷ ids) rises = rises.1

pub tally_above : (a : TxId) (rows : List Row) → RisesFrom a (ids_of rows) → tally_of rows a ≡ no_tally
tally_above a [] rises = refl
tally_above a (row ∷ rows) rises =
    rw (above_other a row.id rises.0) (tally_above a rows (RisesFrom-lower a row.id (ids_of rows) rises.0 rises.1))

-- ---- rising

put-RisesFrom : (a tx : TxId) (tally : Tally) (rows : List Row) → is_below a tx ≡ true → RisesFrom tx (ids_of rows) → RisesFrom a (ids_of (put tx tally rows))
put-RisesFrom a tx tally rows low rises =
    cond_both (held_by tally == 0) rows (record { id = tx; tally = tally } ∷ rows) (λ rs. RisesFrom a (ids_of rs))
    (λ _. RisesFrom-lower a tx (ids_of rows) low rises) (λ _. (low, rises))

put-IsRising : (tx : TxId) (tally : Tally) (rows : List Row) → RisesFrom tx (ids_of rows) → IsRising (ids_of (put tx tally rows))
put-IsRising tx tally rows rises =
    cond_both (held_by tally == 0) rows (record { id = tx; tally = tally } ∷ rows) (λ rs. IsRising (ids_of rs)) (λ _. rises_rest tx (ids_of rows) rises) (λ _. rises)

-- an id that is neither below nor above is the one
from_same : (a tx : TxId) (ids : List TxId) → is_below a tx ≡ false → is_below tx a ≡ false → RisesFrom a ids → RisesFrom tx ids
from_same a tx ids high low rises = subst (λ b. RisesFrom b ids) (neither_below a tx high low) rises

exchange-RisesFrom : (a tx : TxId) (from to : Tally) (rows : List Row) → is_below a tx ≡ true → RisesFrom a (ids_of rows) → RisesFrom a (ids_of (with_exchange tx from to rows))
exchange-RisesFrom a tx from to [] low rises = put-RisesFrom a tx (exchanged from to no_tally) [] low tt
exchange-RisesFrom a tx from to (row ∷ rows) low rises =
    cond_both (is_below row.id tx) (row ∷ with_exchange tx from to rows)
    (cond (is_below tx row.id) (put tx (exchanged from to no_tally) (row ∷ rows)) (put tx (exchanged from to row.tally) rows)) (λ rs. RisesFrom a (ids_of rs))
    (λ later. (rises.0, exchange-RisesFrom row.id tx from to rows later rises.1))
    (λ high. cond_both (is_below tx row.id) (put tx (exchanged from to no_tally) (row ∷ rows)) (put tx (exchanged from to row.tally) rows) (λ rs. RisesFrom a (ids_of rs))
    (λ before. put-RisesFrom a tx (exchanged from to no_tally) (row ∷ rows) low (before, rises.1))
    (λ same. put-RisesFrom a tx (exchanged from to row.tally) rows low (from_same row.id tx (ids_of rows) high same rises.1)))

pub exchange-IsRising : (tx : TxId) (from to : Tally) (rows : List Row) → IsRising (ids_of rows) → IsRising (ids_of (with_exchange tx from to rows))
exchange-IsRising tx from to [] rises = put-IsRising tx (exchanged from to no_tally) [] tt
exchange-IsRising tx from to (row ∷ rows) rises =
    cond_both (is_below row.id tx) (row ∷ with_exchange tx from to rows)
    (cond (is_below tx row.id) (put tx (exchanged from to no_tally) (row ∷ rows)) (put tx (exchanged from to row.tally) rows)) (λ rs. IsRising (ids_of rs))
    (λ later. exchange-RisesFrom row.id tx from to rows later rises)
    (λ high. cond_both (is_below tx row.id) (put tx (exchanged from to no_tally) (row ∷ rows)) (put tx (exchanged from to row.tally) rows) (λ rs. IsRising (ids_of rs))
    (λ before. put-IsRising tx (exchanged from to no_tally) (row ∷ rows) (before, rises))
    (λ same. put-IsRising tx (exchanged from to row.tally) rows (from_same row.id tx (ids_of rows) high same rises)))

-- ---- each in a set

abbrev pub Counted : Row → Type 0
Counted row = 0 < held_by row.tally

put-counted : (tx : TxId) (tally : Tally) (rows : List Row) → All Counted rows → All Counted (put tx tally rows)
put-counted tx tally rows all =
    cond_both (held_by tally == 0) rows (record { id = tx; tally = tally } ∷ rows) (All Counted) (λ _. all)
    (λ some. All-cons Counted (record { id = tx; tally = tally }) rows (grind (arith, nat_tests, some)) all)

exchange-counted : (tx : TxId) (from to : Tally) (rows : List Row) → All Counted rows → All Counted (with_exchange tx from to rows)
exchange-counted tx from to [] all = put-counted tx (exchanged from to no_tally) [] all
exchange-counted tx from to (row ∷ rows) all =
    let rest : All Counted rows = All-tail Counted row rows all in
    cond_both (is_below row.id tx) (row ∷ with_exchange tx from to rows)
    (cond (is_below tx row.id) (put tx (exchanged from to no_tally) (row ∷ rows)) (put tx (exchanged from to row.tally) rows)) (All Counted)
    (λ _. All-cons Counted row (with_exchange tx from to rows) (All-head Counted row rows all) (exchange-counted tx from to rows rest))
    (λ _. cond_both (is_below tx row.id) (put tx (exchanged from to no_tally) (row ∷ rows)) (put tx (exchanged from to row.tally) rows) (All Counted)
    (λ _. put-counted tx (exchanged from to no_tally) (row ∷ rows) all)
    (λ _. put-counted tx (exchanged from to row.tally) rows rest))

pub exchange-IsIndex : (tx : TxId) (from to : Tally) (rows : List Row) → IsIndex rows → IsIndex (with_exchange tx from to rows)
exchange-IsIndex tx from to rows index = record { rising = exchange-IsRising tx from to rows index.rising; counted = exchange-counted tx from to rows index.counted }

-- ---- what each id has

swapped : {A : Type 0} (s u : Bool) (x y z : A) → (s ≡ true → u ≡ false) → cond s x (cond u y z) ≡ cond u y (cond s x z)
swapped true true x y z apart = absurd (cc (apart refl))
swapped true false x y z apart = refl
swapped false u x y z apart = refl

dropped : (same : Bool) (tx t : TxId) (tally : Tally) (rows : List Row) → same ≡ is_same tx t → tally_of rows tx ≡ no_tally → tally ≡ no_tally →
    tally_of rows t ≡ cond same tally (tally_of rows t)
dropped true tx t tally rows is none empty = ap (tally_of rows) (sym (same_is tx t (sym is))) ∙ none ∙ sym empty
dropped false tx t tally rows is none empty = refl

put_tally : (tx t : TxId) (tally : Tally) (rows : List Row) → tally_of rows tx ≡ no_tally → IsWhole tally →
    tally_of (put tx tally rows) t ≡ cond (is_same tx t) tally (tally_of rows t)
put_tally tx t tally rows none whole =
    cond_both (held_by tally == 0) rows (record { id = tx; tally = tally } ∷ rows) (λ rs. tally_of rs t ≡ cond (is_same tx t) tally (tally_of rows t))
    (λ z. let gone : held_by tally ≡ 0 = grind (arith, nat_tests, z) in dropped (is_same tx t) tx t tally rows refl none (whole gone)) (λ _. refl)

pub exchange_tally : (tx t : TxId) (from to : Tally) (rows : List Row) → IsRising (ids_of rows) → IsWhole (exchanged from to (tally_of rows tx)) →
    tally_of (with_exchange tx from to rows) t ≡ cond (is_same tx t) (exchanged from to (tally_of rows tx)) (tally_of rows t)
exchange_tally tx t from to [] rises whole = put_tally tx t (exchanged from to no_tally) [] refl whole
exchange_tally tx t from to (row ∷ rows) rises whole =
    cond_both (is_below row.id tx) (row ∷ with_exchange tx from to rows)
    (cond (is_below tx row.id) (put tx (exchanged from to no_tally) (row ∷ rows)) (put tx (exchanged from to row.tally) rows)) P
    (later (exchange_tally tx t from to rows (rises_rest row.id (ids_of rows) rises)))
    (λ high. cond_both (is_below tx row.id) (put tx (exchanged from to no_tally) (row ∷ rows)) (put tx (exchanged from to row.tally) rows) P before (here high))
  where
    P : List Row → Type 0
    P rs = tally_of rs t ≡ cond (is_same tx t) (exchanged from to (tally_of (row ∷ rows) tx)) (tally_of (row ∷ rows) t)

    at : (x : Tally) → tally_of (row ∷ rows) tx ≡ x → IsWhole (exchanged from to x)
    at x is = subst (λ y. IsWhole (exchanged from to y)) is whole

    both : is_below row.id tx ≡ true → is_same row.id t ≡ true → is_same tx t ≡ false
    both lower same = subst (λ x. is_same tx x ≡ false) (same_is row.id t same) (above_other row.id tx lower)

    later : (IsWhole (exchanged from to (tally_of rows tx)) → tally_of (with_exchange tx from to rows) t ≡ cond (is_same tx t) (exchanged from to (tally_of rows tx)) (tally_of rows t)) →
        is_below row.id tx ≡ true → P (row ∷ with_exchange tx from to rows)
    later more lower =
        let e : tally_of (row ∷ rows) tx ≡ tally_of rows tx = rw (below_other row.id tx lower) refl in
        ap (λ x. cond (is_same row.id t) row.tally x) (more (at (tally_of rows tx) e))
        ∙ swapped (is_same row.id t) (is_same tx t) row.tally (exchanged from to (tally_of rows tx)) (tally_of rows t) (both lower)
        ∙ ap (λ y. cond (is_same tx t) (exchanged from to y) (tally_of (row ∷ rows) t)) (sym e)

    before : is_below tx row.id ≡ true → P (put tx (exchanged from to no_tally) (row ∷ rows))
    before lower =
        let e : tally_of (row ∷ rows) tx ≡ no_tally = tally_above tx (row ∷ rows) (lower, rises) in
        put_tally tx t (exchanged from to no_tally) (row ∷ rows) e (at no_tally e)
        ∙ ap (λ y. cond (is_same tx t) (exchanged from to y) (tally_of (row ∷ rows) t)) (sym e)

    unlike : (same : Bool) → same ≡ is_same tx t → row.id ≡ tx → cond same (exchanged from to row.tally) (tally_of rows t) ≡ cond same (exchanged from to row.tally) (tally_of (row ∷ rows) t)
    unlike true is one = refl
    unlike false is one = let no_row : is_same row.id t ≡ false = ap (λ x. is_same x t) one ∙ sym is in rw no_row refl

    here : is_below row.id tx ≡ false → is_below tx row.id ≡ false → P (put tx (exchanged from to row.tally) rows)
    here high low =
        let one : row.id ≡ tx = neither_below row.id tx high low in
        let same : is_same row.id tx ≡ true = subst (λ x. is_same row.id x ≡ true) one (same_itself row.id) in
        let e : tally_of (row ∷ rows) tx ≡ row.tally = rw same refl in
        put_tally tx t (exchanged from to row.tally) rows (tally_above tx rows (from_same row.id tx (ids_of rows) high low rises)) (at row.tally e)
        ∙ unlike (is_same tx t) refl one
        ∙ ap (λ y. cond (is_same tx t) (exchanged from to y) (tally_of (row ∷ rows) t)) (sym e)

-- ---- at most one row comes

put_length : (tx : TxId) (tally : Tally) (rows : List Row) → length (put tx tally rows) ≤ length rows + 1
put_length tx tally rows =
    cond_both (held_by tally == 0) rows (record { id = tx; tally = tally } ∷ rows) (λ rs. length rs ≤ length rows + 1)
    (λ _. omega arith) (λ _. omega arith)

pub exchange_length : (tx : TxId) (from to : Tally) (rows : List Row) → length (with_exchange tx from to rows) ≤ length rows + 1
exchange_length tx from to [] = put_length tx (exchanged from to no_tally) []
exchange_length tx from to (row ∷ rows) =
    cond_both (is_below row.id tx) (row ∷ with_exchange tx from to rows)
    (cond (is_below tx row.id) (put tx (exchanged from to no_tally) (row ∷ rows)) (put tx (exchanged from to row.tally) rows)) P
    (λ _. omega (arith, exchange_length tx from to rows))
    (λ _. cond_both (is_below tx row.id) (put tx (exchanged from to no_tally) (row ∷ rows)) (put tx (exchanged from to row.tally) rows) P
    (λ _. put_length tx (exchanged from to no_tally) (row ∷ rows)) (λ _. omega (arith, put_length tx (exchanged from to row.tally) rows)))
  where
    P : List Row → Type 0
    P rs = length rs ≤ length (row ∷ rows) + 1
