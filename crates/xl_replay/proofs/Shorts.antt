-- The `short` lines are the pairs that are short, and a pair that isn't among them is enough.
use Rattle.std.proofs.Common.{◌≡◌, ℕ, Bool, true, false, zero, suc, ◌+◌, ◌-◌, ◌<◌, ◌≤◌, List, [], ◌∷◌, ◌++◌, refl, arith, ap, sym, ◌∙◌, Option, Some, None, subst, inl, inr}
use Rattle.std.specs.Prelude.{nat_lt, ◌==◌, ◌&&◌, All, Contains, find, is_some, not}
use Rattle.std.specs.List.{flat_map}
use Rattle.std.proofs.lemmas.Bool.{and_parts, cond_both, eq-eqb, ltb-true, cases_lt}
use Rattle.std.proofs.lemmas.Grind.{flat_map-append}
use Rattle.std.proofs.lemmas.List.{append-nil}
use Rattle.std.proofs.lemmas.List.Elements.{All-contains, All-head, All-tail, All-nil, All-cons}
use Rattle.xl_lists.specs.Lists.{TrustedList}
use Rattle.xl_lists.specs.Quorums.{bound_of, Enough}
use Rattle.xl_world.specs.World.{World}
use Rattle.xl_world.specs.declared.plan.InForce.{InForce}
use Rattle.xl_world.specs.Plans.{up_from, all_numbers}
use Rattle.xl_world.proofs.Listing.{at_node}
use Rattle.xl_replay.specs.Texts.{is_short, short_at, short_from, short_line, short_of, short_with, shorts_of, short_lines}
use Rattle.xl_replay.specs.Headlines.{Short, short_text, IsPair}

-- THE PAIRS THAT ARE SHORT

abbrev pub pair_of : List ℕ → ℕ → TrustedList → ℕ → Option InForce → List Short
pair_of liars i a j None = []
pair_of liars i a j (Some f) = record { first = i; second = j; sum = a.quorum + f.list.quorum; bound = bound_of liars a f.list } ∷ []

abbrev pub pair_from : List ℕ → List InForce → ℕ → ℕ → Option InForce → List Short
pair_from liars lists i j None = []
pair_from liars lists i j (Some e) = pair_of liars i e.list j (short_with liars lists e.list j)

abbrev pub pair_at : World → ℕ → ℕ → List Short
pair_at w i j = pair_from w.liars w.lists i j (short_at w.liars w.lists i j)

abbrev pub short_pairs_of : World → ℕ → List Short
short_pairs_of w i = flat_map (λ j. pair_at w i j) (up_from i (65 - i))

-- the pairs of nodes that are short, by rising numbers
abbrev pub short_pairs : World → List Short
short_pairs w = flat_map (λ i. short_pairs_of w i) all_numbers

-- TEXT

-- parts of parts
flat_map-parts : {X Y : Type 0} (f : Y → List ℕ) (g : X → List Y) (xs : List X) → flat_map (λ x. flat_map f (g x)) xs ≡ flat_map f (flat_map g xs)
flat_map-parts f g [] = refl
flat_map-parts f g (x ∷ xs) = ap (λ t. flat_map f (g x) ++ t) (flat_map-parts f g xs) ∙ sym (flat_map-append f (g x) (flat_map g xs))

flat_map-same : {X : Type 0} (f g : X → List ℕ) → ((x : X) → f x ≡ g x) → (xs : List X) → flat_map f xs ≡ flat_map g xs
flat_map-same f g same [] = refl
flat_map-same f g same (x ∷ xs) = ap (λ t. t ++ flat_map f xs) (same x) ∙ ap (λ t. g x ++ t) (flat_map-same f g same xs)

of_text : (liars : List ℕ) (i : ℕ) (a : TrustedList) (j : ℕ) (o : Option InForce) → short_of liars i a j o ≡ flat_map short_text (pair_of liars i a j o)
of_text liars i a j None = refl
of_text liars i a j (Some f) = sym (append-nil (short_line i j (a.quorum + f.list.quorum) (bound_of liars a f.list)))

from_text : (liars : List ℕ) (lists : List InForce) (i j : ℕ) (o : Option InForce) → short_from liars lists i j o ≡ flat_map short_text (pair_from liars lists i j o)
from_text liars lists i j None = refl
from_text liars lists i j (Some e) = of_text liars i e.list j (short_with liars lists e.list j)

pairs_text : (w : World) (i : ℕ) → shorts_of w i ≡ flat_map short_text (short_pairs_of w i)
pairs_text w i =
    flat_map-same _ _ (λ j. from_text w.liars w.lists i j (short_at w.liars w.lists i j)) (up_from i (65 - i))
    ∙ flat_map-parts short_text (λ j. pair_at w i j) (up_from i (65 - i))

pub short_lines-pairs : (w : World) → short_lines w ≡ flat_map short_text (short_pairs w)
short_lines-pairs w =
    flat_map-same _ _ (λ i. pairs_text w i) all_numbers ∙ flat_map-parts short_text (λ i. short_pairs_of w i) all_numbers

-- PAIRS

all_left : {X : Type 0} (P : X → Type 0) (xs ys : List X) → All P (xs ++ ys) → All P xs
all_left P [] ys each = All-nil P
all_left P (x ∷ xs) ys each = All-cons P x xs (All-head P x (xs ++ ys) each) (all_left P xs ys (All-tail P x (xs ++ ys) each))

all_right : {X : Type 0} (P : X → Type 0) (xs ys : List X) → All P (xs ++ ys) → All P ys
all_right P [] ys each = each
all_right P (x ∷ xs) ys each = all_right P xs ys (All-tail P x (xs ++ ys) each)

-- what holds of all that some numbers give holds of what one of them gives
at_number : (P : Short → Type 0) (f : ℕ → List Short) (n k x : ℕ) → n ≤ x → x < n + k → All P (flat_map f (up_from n k)) → All P (f x)
unfolding up_from
at_number P f n zero x from below each = absurd (omega arith)
at_number P f n (suc k) x from below each =
    elim (cases_lt n x) [
      | inl later ↦ at_number P f (n + 1) k x (omega arith) (omega arith) (all_right P (f n) _ each)
      | inr here ↦ let same : n ≡ x = omega arith in subst (λ (m : ℕ). All P (f m)) same (all_left P (f n) _ each)
    ]

-- where nothing is found nothing passes
none_passes : {X : Type 0} (p : X → Bool) (xs : List X) → find p xs ≡ None → All (λ x. p x ≡ false) xs
none_passes p [] none = All-nil (λ x. p x ≡ false)
none_passes p (x ∷ xs) none =
    cond_both (p x) (Some x) (find p xs) (λ o. o ≡ None → All (λ y. p y ≡ false) (x ∷ xs)) (λ _ is. cc)
    (λ not is. All-cons (λ y. p y ≡ false) x xs not (none_passes p xs is)) none

find_passes : {X : Type 0} (p : X → Bool) (xs : List X) (x : X) → find p xs ≡ Some x → p x ≡ true
find_passes p [] x found = cc
find_passes p (y ∷ ys) x found =
    cond_both (p y) (Some y) (find p ys) (λ o. o ≡ Some x → p x ≡ true) (λ is here. subst (λ z. p z ≡ true) (same y x here) is) (λ _ there. find_passes p ys x there) found
  where
    same : {Y : Type 0} (u v : Y) → Some u ≡ Some v → u ≡ v
    same u v e = cc

no_some : {X : Type 0} (o : Option X) → is_some o ≡ false → o ≡ None
no_some None e = refl
no_some (Some x) e = cc

-- of a pair that isn't told to be short, any two lists that were in force are enough
pub pair_enough : (w : World) (i j : ℕ) (a b : TrustedList) → 1 ≤ i → i ≤ j → j ≤ 64 → Contains w.lists (at_node i a) → Contains w.lists (at_node j b) → All (λ s. ¬ IsPair i j s) (short_pairs w) → Enough w.liars a b
pair_enough w i j a b least from greatest has_a has_b none =
    let P = λ (s : Short). ¬ IsPair i j s in
    let of_i : All P (short_pairs_of w i) = at_number P (λ k. short_pairs_of w k) 1 64 i least (omega (arith, from, greatest)) none in
    let of_j : All P (pair_at w i j) = at_number P (λ k. pair_at w i k) i (65 - i) j from (omega (arith, from, greatest)) of_i in
    by_first (short_at w.liars w.lists i j) refl of_j
  where
    second : (e : InForce) (o : Option InForce) → is_some o ≡ true → All (λ s. ¬ IsPair i j s) (pair_of w.liars i e.list j o) → ⊥
    second e None there each = cc
    second e (Some f) there each =
        All-head (λ s. ¬ IsPair i j s) (record { first = i; second = j; sum = e.list.quorum + f.list.quorum; bound = bound_of w.liars e.list f.list }) [] each (refl, refl)

    enough : (short : Bool) → not short ≡ false → short ≡ true
    enough true e = refl
    enough false e = cc

    by_first : (o : Option InForce) → short_at w.liars w.lists i j ≡ o → All (λ s. ¬ IsPair i j s) (pair_from w.liars w.lists i j o) → Enough w.liars a b
    by_first (Some e) is each =
        absurd (second e (short_with w.liars w.lists e.list j) (and_parts (e.node == i) _ (find_passes _ w.lists e is)).1 each)
    by_first None is each =
        let of_a : (i == i && is_some (short_with w.liars w.lists a j)) ≡ false =
        All-contains (λ e. (e.node == i && is_some (short_with w.liars w.lists e.list j)) ≡ false) w.lists (at_node i a) (none_passes _ w.lists is) has_a in
        let nothing : short_with w.liars w.lists a j ≡ None = no_some _ (sym (ap (λ (x : Bool). x && is_some (short_with w.liars w.lists a j)) (eq-eqb i i refl)) ∙ of_a) in
        let of_b : (j == j && is_short w.liars a b) ≡ false =
        All-contains (λ f. (f.node == j && is_short w.liars a f.list) ≡ false) w.lists (at_node j b) (none_passes _ w.lists nothing) has_b in
        ltb-true _ _ (enough (nat_lt (bound_of w.liars a b) (a.quorum + b.quorum)) (sym (ap (λ (x : Bool). x && is_short w.liars a b) (eq-eqb j j refl)) ∙ of_b))
