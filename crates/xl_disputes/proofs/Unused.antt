-- Places above the last member's change nothing.
use Rattle.std.proofs.Common.{◌≡◌, ℕ, zero, suc, ◌+◌, ◌-◌, ◌<◌, ◌≤◌, Bool, true, false, not, cond, List, [], ◌∷◌, ◌++◌, length, map, take, drop, set, get_or, replicate, refl, sym, ap, subst, ◌∙◌, arith, inl, inr, ◌⊎◌}
use Rattle.std.specs.Prelude.{fold, All, Option, Some, None}
use Rattle.std.specs.List.{prefix_len}
use Rattle.std.proofs.lemmas.List.{length-set, set_past, drop-set-lt, drop-drop}
use Rattle.std.proofs.lemmas.List.Elements.{All-nil, All-cons, All-head, All-tail, All-drop, All-replicate}
use Rattle.xl_base.specs.declared.ids.SetId.{SetId}
use Rattle.xl_disputes.specs.Holdings.{Holding, member_bits, no_holding, no_holdings, changed, with_set, with_weight}
use Rattle.xl_disputes.specs.Standings.{names, stand, with_one, standings, weighed, IsLast, IsReady}
use Rattle.xl_disputes.specs.declared.shares.TheConstants.{PLACES}

abbrev Is0 : ℕ → Type 0
Is0 n = n ≡ 0

abbrev IsNone : Option SetId → Type 0
IsNone position = position ≡ None

abbrev pub IsFree : Holding → Type 0
IsFree h = h ≡ no_holding h.bit

-- ---- positions

abbrev counted : List Holding → List ℕ → List (Option SetId) → List ℕ
counted hs weights positions = fold (λ ws position. with_one (stand hs position) ws) weights positions

none_counts : (hs : List Holding) (weights : List ℕ) (position : Option SetId) → length weights ≡ length hs → position ≡ None → with_one (stand hs position) weights ≡ weights
none_counts hs weights position same is =
    ap (λ p. with_one (stand hs p) weights) is ∙ set_past weights (length hs) (get_or weights (length hs) 0 + 1) (omega (arith, same))

none_count : (hs : List Holding) (weights : List ℕ) (positions : List (Option SetId)) → length weights ≡ length hs → All IsNone positions → counted hs weights positions ≡ weights
none_count hs weights [] same none = refl
none_count hs weights (position ∷ positions) same none =
    ap (λ ws. counted hs ws positions) (none_counts hs weights position same (All-head IsNone position positions none))
    ∙ none_count hs weights positions same (All-tail IsNone position positions none)

first_count : (hs : List Holding) (weights : List ℕ) (n : ℕ) (positions : List (Option SetId)) → length weights ≡ length hs → All IsNone (drop n positions) →
    counted hs weights (take n positions) ≡ counted hs weights positions
first_count hs weights zero positions same none = sym (none_count hs weights positions same none)
first_count hs weights (suc n) [] same none = refl
first_count hs weights (suc n) (position ∷ positions) same none =
    first_count hs (with_one (stand hs position) weights) n positions (length-set weights (stand hs position) (get_or weights (stand hs position) 0 + 1) ∙ same) none

-- once the first are gone none is left
pub none_left : (n : ℕ) (positions : List (Option SetId)) → All IsNone (drop n positions) → map (λ _. None) (take n positions) ++ drop n positions ≡ replicate (length positions) None
none_left zero [] none = refl
none_left zero (position ∷ positions) none =
    ap (λ p. p ∷ positions) (All-head IsNone position positions none) ∙ ap (λ ps. None ∷ ps) (none_left zero positions (All-tail IsNone position positions none))
none_left (suc n) [] none = refl
none_left (suc n) (position ∷ positions) none = ap (λ ps. None ∷ ps) (none_left n positions none)

-- ---- places

free_unnamed : (id : SetId) (h : Holding) → IsFree h → names id h.set ≡ false
free_unnamed id h free = ap (λ (x : Holding). names id x.set) free

prefix_low : (id : SetId) (k : ℕ) (hs : List Holding) → All IsFree (drop k hs) →
    (prefix_len (λ h. not (names id h.set)) hs < k) ⊎ (length hs ≤ prefix_len (λ h. not (names id h.set)) hs)
prefix_low id k [] free = inr (omega arith)
prefix_low id zero (h ∷ hs) free = inr (first (names id h.set) (free_unnamed id h (All-head IsFree h hs free)) (prefix_low id zero hs (All-tail IsFree h hs free)))
  where
    n : ℕ
    n = prefix_len (λ x. not (names id x.set)) hs

    first : (b : Bool) → b ≡ false → (n < 0) ⊎ (length hs ≤ n) → length (h ∷ hs) ≤ cond (not b) (1 + n) 0
    first true is more = absurd (cc is)
    first false is (inl low) = absurd (omega (arith, low))
    first false is (inr high) = omega (arith, high)
prefix_low id (suc k) (h ∷ hs) free = first (names id h.set) (prefix_low id k hs free)
  where
    n : ℕ
    n = prefix_len (λ x. not (names id x.set)) hs

    first : (b : Bool) → (n < k) ⊎ (length hs ≤ n) → (cond (not b) (1 + n) 0 < suc k) ⊎ (length (h ∷ hs) ≤ cond (not b) (1 + n) 0)
    first true more = inl (omega arith)
    first false (inl low) = inl (omega (arith, low))
    first false (inr high) = inr (omega (arith, high))

stand_low : (k : ℕ) (hs : List Holding) (position : Option SetId) → All IsFree (drop k hs) → (stand hs position < k) ⊎ (length hs ≤ stand hs position)
stand_low k hs None free = inr (omega arith)
stand_low k hs (Some id) free = prefix_low id k hs free

one_stays : (k place : ℕ) (weights : List ℕ) → (place < k) ⊎ (length weights ≤ place) → drop k (with_one place weights) ≡ drop k weights
one_stays k place weights (inl low) = drop-set-lt k weights place (get_or weights place 0 + 1) low
one_stays k place weights (inr high) = ap (drop k) (set_past weights place (get_or weights place 0 + 1) high)

-- no position stands at a free place
free_count : (k : ℕ) (hs : List Holding) (weights : List ℕ) (positions : List (Option SetId)) → length weights ≡ length hs → All IsFree (drop k hs) → drop k (counted hs weights positions) ≡ drop k weights
free_count k hs weights [] same free = refl
free_count k hs weights (position ∷ positions) same free =
    free_count k hs (with_one (stand hs position) weights) positions (length-set weights (stand hs position) (get_or weights (stand hs position) 0 + 1) ∙ same) free
    ∙ one_stays k (stand hs position) weights (subst (λ n. (stand hs position < k) ⊎ (n ≤ stand hs position)) (sym same) (stand_low k hs position free))

-- ---- weights

free_weighs : (weight : ℕ) (h : Holding) → weight ≡ 0 → IsFree h → h ≡ with_weight weight h
free_weighs weight h none free = free ∙ ap (λ (x : Holding). with_weight 0 x) (sym free) ∙ ap (λ n. with_weight n h) (sym none)

all_free : (weights : List ℕ) (hs : List Holding) → All Is0 weights → All IsFree hs → hs ≡ weighed weights hs
all_free [] hs none free = refl
all_free (weight ∷ weights) [] none free = refl
all_free (weight ∷ weights) (h ∷ hs) none free =
    ap (λ x. x ∷ hs) (free_weighs weight h (All-head Is0 weight weights none) (All-head IsFree h hs free))
    ∙ ap (λ xs. with_weight weight h ∷ xs) (all_free weights hs (All-tail Is0 weight weights none) (All-tail IsFree h hs free))

first_weighed : (k : ℕ) (weights : List ℕ) (hs : List Holding) → All Is0 (drop k weights) → All IsFree (drop k hs) → weighed (take k weights) hs ≡ weighed weights hs
first_weighed zero weights hs none free = all_free weights hs none free
first_weighed (suc k) [] hs none free = refl
first_weighed (suc k) (weight ∷ weights) [] none free = refl
first_weighed (suc k) (weight ∷ weights) (h ∷ hs) none free = ap (λ xs. with_weight weight h ∷ xs) (first_weighed k weights hs none free)

weighed_behind : (k : ℕ) (weights : List ℕ) (hs : List Holding) → drop k (weighed (take k weights) hs) ≡ drop k hs
weighed_behind zero weights hs = refl
weighed_behind (suc k) [] hs = refl
weighed_behind (suc k) (weight ∷ weights) [] = refl
weighed_behind (suc k) (weight ∷ weights) (h ∷ hs) = weighed_behind k weights hs

-- ---- all of it

module _ (last : ℕ) (hs : List Holding) (positions : List (Option SetId)) (places : length hs ≡ PLACES) (is : IsLast last hs positions) where
  none_there : All Is0 (drop (suc last) (standings hs positions))
  none_there =
      subst (All Is0) (sym (free_count (suc last) hs (replicate PLACES 0) positions (sym places) is.unheld)) (All-drop Is0 (suc last) (replicate PLACES 0) (All-replicate Is0 PLACES 0 refl))

  -- the first positions and places are enough
  pub first_enough : weighed (take (suc last) (standings hs (take last positions))) hs ≡ weighed (standings hs positions) hs
  first_enough =
      ap (λ weights. weighed (take (suc last) weights) hs) (first_count hs (replicate PLACES 0) last positions (sym places) is.unnamed)
      ∙ first_weighed (suc last) (standings hs positions) hs none_there is.unheld

  -- and what is behind them stays
  pub last_weighed : IsLast last (weighed (standings hs positions) hs) positions
  last_weighed = record {
    within = is.within;
    unnamed = is.unnamed;
    unheld =
        subst (All IsFree) (sym (ap (drop (suc last)) (sym (first_weighed (suc last) (standings hs positions) hs none_there is.unheld)) ∙ weighed_behind (suc last) (standings hs positions) hs)) is.unheld;
  }

-- ---- what changes before the last member's place

behind_more : {X : Type 0} (P : X → Type 0) (n m : ℕ) (xs : List X) → n ≤ m → All P (drop n xs) → All P (drop m xs)
behind_more P n m xs less all =
    let e : n + (m - n) ≡ m = omega (arith, less) in
    subst (All P) (drop-drop (m - n) n xs ∙ ap (λ k. drop k xs) e) (All-drop P (m - n) (drop n xs) all)

-- a later last
pub later_last : (last more : ℕ) (hs : List Holding) (positions : List (Option SetId)) → last ≤ more → more ≤ 64 → IsLast last hs positions → IsLast more hs positions
later_last last more hs positions less within is = record {
  within = within;
  unnamed = behind_more IsNone last more positions less is.unnamed;
  unheld = behind_more IsFree (suc last) (suc more) hs (omega (arith, less)) is.unheld;
}

-- a position up to the last one
pub last_named : (last place : ℕ) (position : Option SetId) (hs : List Holding) (positions : List (Option SetId)) → place < last → IsLast last hs positions → IsLast last hs (set positions place position)
last_named last place position hs positions below is = record {
  within = is.within;
  unnamed = subst (All IsNone) (sym (drop-set-lt last positions place position below)) is.unnamed;
  unheld = is.unheld;
}

none_set : (n place : ℕ) (positions : List (Option SetId)) → All IsNone (drop n positions) → All IsNone (drop n (set positions place None))
none_set zero zero (position ∷ positions) none = All-cons IsNone None positions refl (All-tail IsNone position positions none)
none_set zero (suc place) (position ∷ positions) none =
    All-cons IsNone position (set positions place None) (All-head IsNone position positions none) (none_set zero place positions (All-tail IsNone position positions none))
none_set (suc n) (suc place) (position ∷ positions) none = none_set n place positions none
none_set (suc n) zero (position ∷ positions) none = none
none_set n place positions none = none

-- no position any more
pub last_unnamed : (last place : ℕ) (hs : List Holding) (positions : List (Option SetId)) → IsLast last hs positions → IsLast last hs (set positions place None)
last_unnamed last place hs positions is = record { within = is.within; unnamed = none_set last place positions is.unnamed; unheld = is.unheld }

pub last_cleared : (last : ℕ) (hs : List Holding) (positions : List (Option SetId)) → IsLast last hs positions → IsLast last hs (replicate 64 None)
last_cleared last hs positions is =
    record { within = is.within; unnamed = All-drop IsNone last (replicate 64 None) (All-replicate IsNone 64 None refl); unheld = is.unheld }

changed_before : (f : Holding → Holding) (place n : ℕ) (hs : List Holding) → place < n → drop n (changed f place hs) ≡ drop n hs
changed_before f place zero hs below = absurd (omega (arith, below))
changed_before f place (suc n) [] below = refl
changed_before f zero (suc n) (h ∷ hs) below = refl
changed_before f (suc place) (suc n) (h ∷ hs) below = changed_before f place n hs (omega (arith, below))

-- a set up to the last one's
pub last_held : (f : Holding → Holding) (last place : ℕ) (hs : List Holding) (positions : List (Option SetId)) → place ≤ last → IsLast last hs positions → IsLast last (changed f place hs) positions
last_held f last place hs positions below is = record {
  within = is.within;
  unnamed = is.unnamed;
  unheld = subst (All IsFree) (sym (changed_before f place (suc last) hs (omega (arith, below)))) is.unheld;
}

free_again : (n place : ℕ) (hs : List Holding) → All IsFree (drop n hs) → All IsFree (drop n (changed (with_set None) place hs))
free_again zero place [] free = free
free_again (suc n) place [] free = free
free_again zero zero (h ∷ hs) free =
    All-cons IsFree (with_set None h) hs (ap (λ (x : Holding). with_set None x) (All-head IsFree h hs free)) (All-tail IsFree h hs free)
free_again zero (suc place) (h ∷ hs) free =
    All-cons IsFree h (changed (with_set None) place hs) (All-head IsFree h hs free) (free_again zero place hs (All-tail IsFree h hs free))
free_again (suc n) zero (h ∷ hs) free = free
free_again (suc n) (suc place) (h ∷ hs) free = free_again n place hs free

-- no set any more
pub last_released : (last place : ℕ) (hs : List Holding) (positions : List (Option SetId)) → IsLast last hs positions → IsLast last (changed (with_set None) place hs) positions
last_released last place hs positions is = record { within = is.within; unnamed = is.unnamed; unheld = free_again (suc last) place hs is.unheld }

-- ---- nothing at all

all_held_free : (bits : List ℕ) → All IsFree (map no_holding bits)
all_held_free [] = All-nil IsFree
all_held_free (bit ∷ bits) = All-cons IsFree (no_holding bit) (map no_holding bits) refl (all_held_free bits)

pub nothing_ready : (hs : List Holding) (room : ℕ) → hs ≡ no_holdings → 256 ≤ room → IsReady hs (replicate 64 None) 0 room true
nothing_ready hs room is roomy = subst (λ x. IsReady x (replicate 64 None) 0 room true) (sym is) (record {
  able = record { places = refl; own = refl; bits = refl; count = refl };
  ends = record { within = omega arith; unnamed = All-replicate IsNone 64 None refl; unheld = all_held_free member_bits };
  roomy = roomy;
  weights = λ _. refl;
})
