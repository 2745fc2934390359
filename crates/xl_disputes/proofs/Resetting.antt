-- What is left once all is given back.
use Rattle.std.proofs.Common.{◌≡◌, ℕ, zero, suc, ◌<◌, List, [], ◌∷◌, ◌++◌, length, map, take, set, get_or, refl, ap, ◌∙◌, arith}
use Rattle.std.specs.Prelude.{Some}
use Rattle.std.specs.List.{remove}
use Rattle.std.proofs.lemmas.List.{take_all, take-append-le}
use Rattle.xl_base.specs.Sets.{RisesFrom, IsRising}
use Rattle.xl_base.specs.declared.ids.TxId.{TxId}
use Rattle.xl_disputes.specs.declared.rows.Row.{Row}
use Rattle.xl_disputes.specs.Rows.{ids_of}
use Rattle.xl_disputes.specs.Holdings.{Holding, no_holding, member_bits, no_holdings, with_set}

-- the last row goes
pub last_removed : (rows : List Row) (place : ℕ) → place < length rows → remove (take (suc place) rows) place ≡ take place rows
last_removed [] place within = absurd (omega (arith, within))
last_removed (row ∷ rows) zero within = refl
last_removed (row ∷ rows) (suc place) within = ap (λ rs. row ∷ rs) (last_removed rows place (omega (arith, within)))

-- the first rows rise
rises_from_front : (a : TxId) (n : ℕ) (rows : List Row) → RisesFrom a (ids_of rows) → RisesFrom a (ids_of (take n rows))
rises_from_front a zero rows rises = tt
rises_from_front a (suc n) [] rises = tt
rises_from_front a (suc n) (row ∷ rows) rises = (rises.0, rises_from_front row.id n rows rises.1)

pub rises_front : (n : ℕ) (rows : List Row) → IsRising (ids_of rows) → IsRising (ids_of (take n rows))
rises_front zero rows rises = tt
rises_front (suc n) [] rises = tt
rises_front (suc n) (row ∷ rows) rises = rises_from_front row.id n rows rises

-- the bits alone say what places without sets are
none_by_bits : (hs : List Holding) → map (λ h. no_holding h.bit) hs ≡ map no_holding (map (λ h. h.bit) hs)
none_by_bits [] = refl
none_by_bits (h ∷ hs) = ap (λ xs. no_holding h.bit ∷ xs) (none_by_bits hs)

-- with our own empty set they are as at first
pub first_again : (hs now : List Holding) (h h' : Holding) (ids : List TxId) → map (λ x. x.bit) hs ≡ 0 ∷ member_bits → now ≡ map (λ x. no_holding x.bit) hs →
    h ≡ get_or now 0 h → ids ≡ [] → h' ≡ with_set (Some ids) h → set now 0 h' ≡ no_holdings
first_again hs now h h' ids bits is at empty filled =
    let none : now ≡ no_holding 0 ∷ map no_holding member_bits = is ∙ none_by_bits hs ∙ ap (map no_holding) bits in
    ap (λ xs. set xs 0 h') none
    ∙ ap (λ x. x ∷ map no_holding member_bits) (filled ∙ ap (λ xs. with_set (Some xs) h) empty ∙ ap (with_set (Some [])) (at ∙ ap (λ xs. get_or xs 0 h) none))

-- all places lie where they lay
pub in_place : (places rest : List Holding) (n : ℕ) → length places ≡ n → take n (places ++ rest) ≡ places
in_place places rest n long = take-append-le n places rest (omega (arith, long)) ∙ take_all n places (omega (arith, long))
