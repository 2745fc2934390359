-- Changes of one holding after the other.
use Rattle.std.proofs.Common.{◌≡◌, ℕ, zero, suc, ◌+◌, ◌<◌, ◌≤◌, List, [], ◌∷◌, length, take, get_or, refl, ap, arith}
use Rattle.std.specs.Prelude.{All, Option, None}
use Rattle.std.proofs.lemmas.List.Elements.{All-nil, All-cons, All-head, All-tail, All-weaker}
use Rattle.xl_base.specs.declared.ids.TxId.{TxId}
use Rattle.xl_disputes.specs.Holdings.{Holding, changed, with_set, with_weight, ids_in}
use Rattle.xl_disputes.specs.Standings.{with_one, weighed}

-- ---- a place that is released and filled

pub released_free : (hs : List Holding) (place : ℕ) (d : Holding) → place < length hs → ids_in (get_or (changed (with_set None) place hs) place d) ≡ []
released_free [] place d within = absurd (omega (arith, within))
released_free (h ∷ hs) zero d within = refl
released_free (h ∷ hs) (suc place) d within = released_free hs place d (omega (arith, within))

pub set_twice : (a b : Option (List TxId)) (place : ℕ) (hs : List Holding) → changed (with_set a) place (changed (with_set b) place hs) ≡ changed (with_set a) place hs
set_twice a b place [] = refl
set_twice a b zero (h ∷ hs) = refl
set_twice a b (suc place) (h ∷ hs) = ap (λ xs. h ∷ xs) (set_twice a b place hs)

-- ---- weights

pub weight_stays : (place weight : ℕ) (hs : List Holding) (d : Holding) → place < length hs → (get_or hs place d).weight ≡ weight → hs ≡ changed (with_weight weight) place hs
weight_stays place weight [] d within is = refl
weight_stays zero weight (h ∷ hs) d within is = ap (λ n. with_weight n h ∷ hs) is
weight_stays (suc place) weight (h ∷ hs) d within is = ap (λ xs. h ∷ xs) (weight_stays place weight hs d (omega (arith, within)) is)

pub weighed_more : (weights : List ℕ) (place : ℕ) (hs : List Holding) → place < length weights →
    changed (with_weight (get_or weights place 0)) place (weighed (take place weights) hs) ≡ weighed (take (place + 1) weights) hs
weighed_more [] place hs within = absurd (omega (arith, within))
weighed_more (weight ∷ weights) zero [] within = refl
weighed_more (weight ∷ weights) zero (h ∷ hs) within = refl
weighed_more (weight ∷ weights) (suc place) [] within = let e : suc place + 1 ≡ suc (place + 1) = omega arith in rw e refl
weighed_more (weight ∷ weights) (suc place) (h ∷ hs) within =
    let e : suc place + 1 ≡ suc (place + 1) = omega arith in rw e (ap (λ xs. with_weight weight h ∷ xs) (weighed_more weights place hs (omega (arith, within))))

-- one more raises no weight by more
pub one_more : (weights : List ℕ) (place most : ℕ) → All (λ weight. weight ≤ most) weights → All (λ weight. weight ≤ most + 1) (with_one place weights)
one_more [] zero most all = All-nil (λ weight. weight ≤ most + 1)
one_more [] (suc place) most all = All-nil (λ weight. weight ≤ most + 1)
one_more (weight ∷ weights) zero most all =
    All-cons (λ w. w ≤ most + 1) (weight + 1) weights (omega (arith, All-head (λ w. w ≤ most) weight weights all)) (raised weights (All-tail (λ w. w ≤ most) weight weights all))
  where
    raised : (ws : List ℕ) → All (λ w. w ≤ most) ws → All (λ w. w ≤ most + 1) ws
    raised ws less = All-weaker (λ w. w ≤ most) (λ w. w ≤ most + 1) (λ w few. omega (arith, few)) ws less
one_more (weight ∷ weights) (suc place) most all =
    All-cons (λ w. w ≤ most + 1) weight (with_one place weights) (omega (arith, All-head (λ w. w ≤ most) weight weights all)) (one_more weights place most (All-tail (λ w. w ≤ most) weight weights all))
