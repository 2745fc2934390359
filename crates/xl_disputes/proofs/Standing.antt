-- The weights of the holdings are the positions that stand for them.
use Rattle.std.proofs.Common.{◌≡◌, ℕ, zero, suc, ◌+◌, Bool, true, false, not, cond, List, [], ◌∷◌, length, map, get_or, replicate, refl, sym, ap, ◌∙◌, arith}
use Rattle.std.specs.Prelude.{fold, sum_by, count_by, find, filter_map, unwrap_or, Option, Some, None, option_map}
use Rattle.std.specs.List.{prefix_len}
use Rattle.std.proofs.lemmas.List.{length-set, length-map}
use Rattle.std.proofs.lemmas.List.Sums.{sum_by-cons}
use Rattle.xl_base.specs.declared.ids.TxId.{TxId}
use Rattle.xl_base.specs.declared.ids.SetId.{SetId}
use Rattle.xl_disputes.specs.Disputes.{is_named, is_yay}
use Rattle.xl_disputes.specs.Holdings.{Holding, ids_in}
use Rattle.xl_disputes.specs.Standings.{names, stand, with_one, standings}
use Rattle.xl_disputes.specs.declared.shares.TheConstants.{PLACES}

-- the sum of the weights at which a test passes
abbrev pub picked : List Bool → List ℕ → ℕ
picked [] weights = 0
picked (b ∷ bs) [] = 0
picked (b ∷ bs) (weight ∷ weights) = cond b weight 0 + picked bs weights

picked_one : (bs : List Bool) (weights : List ℕ) (place : ℕ) → length bs ≡ length weights → picked bs (with_one place weights) ≡ picked bs weights + cond (get_or bs place false) 1 0
picked_one [] [] zero same = refl
picked_one [] [] (suc place) same = refl
picked_one [] (weight ∷ weights) place same = absurd (omega (arith, same))
picked_one (b ∷ bs) [] place same = absurd (omega (arith, same))
picked_one (true ∷ bs) (weight ∷ weights) zero same = omega arith
picked_one (false ∷ bs) (weight ∷ weights) zero same = omega arith
picked_one (b ∷ bs) (weight ∷ weights) (suc place) same = omega (arith, picked_one bs weights place (omega (arith, same)))

-- each position adds one where it stands
picked_fold : (hs : List Holding) (bs : List Bool) (weights : List ℕ) (positions : List (Option SetId)) → length bs ≡ length weights →
    picked bs (fold (λ ws position. with_one (stand hs position) ws) weights positions) ≡ picked bs weights + count_by (λ position. get_or bs (stand hs position) false) positions
picked_fold hs bs weights [] same = omega arith
picked_fold hs bs weights (position ∷ positions) same =
    let place : ℕ = stand hs position in
    let still : length bs ≡ length (with_one place weights) = same ∙ sym (length-set weights place (get_or weights place 0 + 1)) in
    omega (arith, picked_fold hs bs (with_one place weights) positions still, picked_one bs weights place same, sum_by-cons (λ (p : Option SetId). cond (get_or bs (stand hs p) false) 1 0) position positions)

picked_none : (bs : List Bool) (n : ℕ) → picked bs (replicate n 0) ≡ 0
picked_none [] n = refl
picked_none (b ∷ bs) zero = refl
picked_none (true ∷ bs) (suc n) = omega (arith, picked_none bs n)
picked_none (false ∷ bs) (suc n) = omega (arith, picked_none bs n)

pub picked_standings : (hs : List Holding) (bs : List Bool) (positions : List (Option SetId)) → length bs ≡ PLACES →
    picked bs (standings hs positions) ≡ count_by (λ position. get_or bs (stand hs position) false) positions
picked_standings hs bs positions count = omega (arith, picked_fold hs bs (replicate PLACES 0) positions count, picked_none bs PLACES)

-- ---- the set that a position stands for

past_end : (bs : List Bool) (n : ℕ) → length bs ≡ n → get_or bs n false ≡ false
past_end [] zero same = refl
past_end [] (suc n) same = refl
past_end (b ∷ bs) zero same = absurd (omega (arith, same))
past_end (b ∷ bs) (suc n) same = past_end bs n (omega (arith, same))

abbrev pub sets_of : List Holding → List (Option (List TxId))
sets_of hs = map (λ h. h.set) hs

found : (test : List TxId → Bool) (id : SetId) (sets : List (Option (List TxId))) →
    get_or (map (λ s. test (unwrap_or s [])) sets) (prefix_len (λ s. not (names id s)) sets) false ≡ is_yay (option_map test (find (is_named id) (filter_map (λ s. s) sets)))
found test id [] = refl
found test id (None ∷ sets) = let e : 1 + prefix_len (λ s. not (names id s)) sets ≡ suc (prefix_len (λ s. not (names id s)) sets) = omega arith in rw e (found test id sets)
found test id (Some s ∷ sets) = step (is_named id s) (found test id sets)
  where
    n : ℕ
    n = prefix_len (λ x. not (names id x)) sets

    step : (b : Bool) → get_or (map (λ x. test (unwrap_or x [])) sets) n false ≡ is_yay (option_map test (find (is_named id) (filter_map (λ x. x) sets))) →
        get_or (test s ∷ map (λ x. test (unwrap_or x [])) sets) (cond (not b) (1 + n) 0) false ≡ is_yay (option_map test (cond b (Some s) (find (is_named id) (filter_map (λ x. x) sets))))
    step true more = refl
    step false more = let e : 1 + n ≡ suc n = omega arith in rw e more

prefix_sets : (id : SetId) (hs : List Holding) → prefix_len (λ h. not (names id h.set)) hs ≡ prefix_len (λ s. not (names id s)) (sets_of hs)
prefix_sets id [] = refl
prefix_sets id (h ∷ hs) = ap (λ n. cond (not (names id h.set)) (1 + n) 0) (prefix_sets id hs)

tests_sets : (test : List TxId → Bool) (hs : List Holding) → map (λ h. test (ids_in h)) hs ≡ map (λ s. test (unwrap_or s [])) (sets_of hs)
tests_sets test [] = refl
tests_sets test (h ∷ hs) = ap (λ bs. test (ids_in h) ∷ bs) (tests_sets test hs)

-- what a position says by a test of its set
abbrev pub says : (List TxId → Bool) → List (Option (List TxId)) → Option SetId → Option Bool
says test sets None = None
says test sets (Some id) = option_map test (find (is_named id) (filter_map (λ s. s) sets))

pub stands_for : (test : List TxId → Bool) (hs : List Holding) (position : Option SetId) →
    get_or (map (λ h. test (ids_in h)) hs) (stand hs position) false ≡ is_yay (says test (sets_of hs) position)
stands_for test hs None = past_end (map (λ h. test (ids_in h)) hs) (length hs) (length-map hs (λ h. test (ids_in h)))
stands_for test hs (Some id) =
    ap (λ bs. get_or bs (prefix_len (λ h. not (names id h.set)) hs) false) (tests_sets test hs)
    ∙ ap (λ n. get_or (map (λ s. test (unwrap_or s [])) (sets_of hs)) n false) (prefix_sets id hs) ∙ found test id (sets_of hs)

-- ---- sums over the holdings

pub amount_picked : (tx : TxId) (test : List TxId → Bool) (hs : List Holding) → sum_by (λ h. cond (test (ids_in h)) h.weight 0) hs ≡ picked (map (λ h. test (ids_in h)) hs) (map (λ h. h.weight) hs)
amount_picked tx test [] = refl
amount_picked tx test (h ∷ hs) = omega (arith, sum_by-cons (λ (x : Holding). cond (test (ids_in x)) x.weight 0) h hs, amount_picked tx test hs)

pub both_picked : (test : List TxId → Bool) (hs : List Holding) →
    picked (map (λ h. test (ids_in h)) hs) (map (λ h. h.weight) hs) + picked (map (λ h. not (test (ids_in h))) hs) (map (λ h. h.weight) hs) ≡ sum_by (λ h. h.weight) hs
both_picked test [] = refl
both_picked test (h ∷ hs) = step (test (ids_in h)) (both_picked test hs) (sum_by-cons (λ (x : Holding). x.weight) h hs)
  where
    step : (b : Bool) →
        picked (map (λ x. test (ids_in x)) hs) (map (λ x. x.weight) hs) + picked (map (λ x. not (test (ids_in x))) hs) (map (λ x. x.weight) hs) ≡ sum_by (λ x. x.weight) hs →
        sum_by (λ x. x.weight) (h ∷ hs) ≡ h.weight + sum_by (λ x. x.weight) hs →
        (cond b h.weight 0 + picked (map (λ x. test (ids_in x)) hs) (map (λ x. x.weight) hs))
        + (cond (not b) h.weight 0 + picked (map (λ x. not (test (ids_in x))) hs) (map (λ x. x.weight) hs)) ≡ sum_by (λ x. x.weight) (h ∷ hs)
    step true more sum = omega (arith, more, sum)
    step false more sum = omega (arith, more, sum)
