-- The walk over the different times ends at the last of those that occur most often.
use Rattle.std.proofs.Common.{◌≡◌, ℕ, ◌≤◌, ◌<◌, List, [], ◌∷◌, get_or, Option, Some, arith, ap, sym, ◌∙◌, subst, refl, inl, inr}
use Rattle.std.specs.Prelude.{◌==◌, nat_lt, nat_le, All, IsTrue, if◌then◌else◌}
use Rattle.std.specs.List.{list_any}
use Rattle.std.proofs.lemmas.Bool.{cond_both, or_cases}
use Rattle.std.proofs.lemmas.Bool.Decides.{nat_tests}
use Rattle.std.proofs.lemmas.List.Elements.{All-nil, All-cons, All-head, All-tail, All-weaker}
use Rattle.xl_closetime.specs.Choices.{with_time, rising_times, last_chosen}

-- each time is before all that follow
abbrev pub Rises : List ℕ → Type 0
Rises [] = Unit {0}
Rises (t ∷ ts) = All (λ u. t < u) ts × Rises ts

-- a fact for each way in which a time finds its place
placed : (P : List ℕ → Type 0) (t u : ℕ) (us : List ℕ) →
    (t < u → P (t ∷ u ∷ us)) → (t ≡ u → P (u ∷ us)) → (u < t → P (u ∷ with_time t us)) → P (with_time t (u ∷ us))
placed P t u us before same behind =
    cond_both (nat_lt t u) (t ∷ u ∷ us) (if t == u then u ∷ us else u ∷ with_time t us) P
    (λ low. before (grind (arith, nat_tests)))
    (λ high. cond_both (t == u) (u ∷ us) (u ∷ with_time t us) P
    (λ equal. same (grind (arith, nat_tests)))
    (λ differs. behind (grind (arith, nat_tests))))

pub All-with_time : (P : ℕ → Type 0) (t : ℕ) (us : List ℕ) → P t → All P us → All P (with_time t us)
All-with_time P t [] here rest = All-cons P t [] here rest
All-with_time P t (u ∷ us) here rest =
    placed (All P) t u us
    (λ _. All-cons P t (u ∷ us) here rest)
    (λ _. rest)
    (λ _. All-cons P u (with_time t us) (All-head P u us rest) (All-with_time P t us here (All-tail P u us rest)))

pub Rises-with_time : (t : ℕ) (us : List ℕ) → Rises us → Rises (with_time t us)
Rises-with_time t [] rises = (All-nil (λ u. t < u), tt)
Rises-with_time t (u ∷ us) rises =
    placed Rises t u us
    (λ low. (All-cons (λ v. t < v) u us low (All-weaker (λ v. u < v) (λ v. t < v) (λ v above. omega arith) us rises.0), rises))
    (λ _. rises)
    (λ high. (All-with_time (λ v. u < v) t us high rises.0, Rises-with_time t us rises.1))

pub Rises-rising : (ts : List ℕ) → Rises (rising_times ts)
Rises-rising [] = tt
Rises-rising (t ∷ ts) = Rises-with_time t (rising_times ts) (Rises-rising ts)

pub All-rising : (P : ℕ → Type 0) (ts : List ℕ) → All P ts → All P (rising_times ts)
All-rising P [] all = all
All-rising P (t ∷ ts) all = All-with_time P t (rising_times ts) (All-head P t ts all) (All-rising P ts (All-tail P t ts all))

-- a time that is there stays, and the new one is there
finds_new : (r t : ℕ) (us : List ℕ) → t ≡ r → IsTrue (list_any (λ u. u == r) (with_time t us))
finds_new r t [] same = grind (arith, nat_tests)
finds_new r t (u ∷ us) same =
    placed (λ ts. IsTrue (list_any (λ v. v == r) ts)) t u us
    (λ _. grind (arith, nat_tests))
    (λ equal. let it : u ≡ r = sym equal ∙ same in grind (arith, nat_tests))
    (λ _. let more : IsTrue (list_any (λ v. v == r) (with_time t us)) = finds_new r t us same in grind (arith, nat_tests))

finds_old : (r t : ℕ) (us : List ℕ) → IsTrue (list_any (λ u. u == r) us) → IsTrue (list_any (λ u. u == r) (with_time t us))
finds_old r t [] there = absurd (grind arith)
finds_old r t (u ∷ us) there =
    placed (λ ts. IsTrue (list_any (λ v. v == r) ts)) t u us
    (λ _. grind (arith, nat_tests))
    (λ _. there)
    (λ _. elim (or_cases (u == r) (list_any (λ v. v == r) us) there) [
      | inl here ↦ grind (arith, nat_tests)
      | inr later ↦ let more : IsTrue (list_any (λ v. v == r) (with_time t us)) = finds_old r t us later in grind (arith, nat_tests)
    ])

pub found_rising : (r : ℕ) (ts : List ℕ) → IsTrue (list_any (λ u. u == r) ts) → IsTrue (list_any (λ u. u == r) (rising_times ts))
found_rising r [] there = there
found_rising r (t ∷ ts) there =
    elim (or_cases (t == r) (list_any (λ u. u == r) ts) there) [
      | inl here ↦ finds_new r t (rising_times ts) (grind (arith, nat_tests))
      | inr later ↦ finds_old r t (rising_times ts) (found_rising r ts later)
    ]

module _ (number : ℕ → ℕ) where
  all_below : (r t : ℕ) (ts : List ℕ) → t ≡ r → All (λ u. t < u) ts → All (λ u. r < u → number u < number r) ts → All (λ u. number u < number t) ts
  all_below r t ts same rises last k d within =
      let above : r < get_or ts k d = subst (λ n. n < get_or ts k d) same (rises k d within) in
      subst (λ n. number (get_or ts k d) < n) (sym (ap number same)) (last k d within above)

  -- if no time reaches the bound, none is chosen any more
  pub walk_stays : (bound : ℕ) (chosen : Option ℕ) (ts : List ℕ) → All (λ t. number t < bound) ts → last_chosen number bound chosen ts ≡ chosen
  walk_stays bound chosen [] below = refl
  walk_stays bound chosen (t ∷ ts) below =
      cond_both (nat_le bound (number t)) (last_chosen number (number t) (Some t) ts) (last_chosen number bound chosen ts) (λ o. o ≡ chosen)
      (λ reached. let least : number t < bound = All-head (λ u. number u < bound) t ts below in absurd (grind (arith, nat_tests)))
      (λ _. walk_stays bound chosen ts (All-tail (λ u. number u < bound) t ts below))

  -- a time that reaches it is chosen, if none after it is
  walk_ends : (r bound : ℕ) (chosen : Option ℕ) (t : ℕ) (ts : List ℕ) → t ≡ r → bound ≤ number r → All (λ u. number u < number t) ts →
      last_chosen number bound chosen (t ∷ ts) ≡ Some r
  walk_ends r bound chosen t ts same reached below =
      let enough : bound ≤ number t = subst (λ k. bound ≤ number k) (sym same) reached in
      cond_both (nat_le bound (number t)) (last_chosen number (number t) (Some t) ts) (last_chosen number bound chosen ts) (λ o. o ≡ Some r)
      (λ _. walk_stays (number t) (Some t) ts below ∙ ap (λ k. Some k) same)
      (λ short. absurd (grind (arith, nat_tests)))

  -- the last of those that occur most often is chosen, and no later one
  pub walk_finds : (r bound : ℕ) (chosen : Option ℕ) (ts : List ℕ) → Rises ts → IsTrue (list_any (λ t. t == r) ts) → bound ≤ number r →
      All (λ t. number t ≤ number r) ts → All (λ t. r < t → number t < number r) ts → last_chosen number bound chosen ts ≡ Some r
  walk_finds r bound chosen [] rises there reached greatest last = absurd (grind arith)
  walk_finds r bound chosen (t ∷ ts) rises there reached greatest last =
      let at_most : number t ≤ number r = All-head (λ u. number u ≤ number r) t ts greatest in
      let greatest' : All (λ u. number u ≤ number r) ts = All-tail (λ u. number u ≤ number r) t ts greatest in
      let last' : All (λ u. r < u → number u < number r) ts = All-tail (λ u. r < u → number u < number r) t ts last in
      elim (or_cases (t == r) (list_any (λ u. u == r) ts) there) [
        | inl here ↦
            let same : t ≡ r = grind (arith, nat_tests) in
            walk_ends r bound chosen t ts same reached (all_below r t ts same rises.0 last')
        | inr later ↦ cond_both (nat_le bound (number t)) (last_chosen number (number t) (Some t) ts) (last_chosen number bound chosen ts) (λ o. o ≡ Some r)
            (λ _. walk_finds r (number t) (Some t) ts rises.1 later at_most greatest' last')
            (λ _. walk_finds r bound chosen ts rises.1 later reached greatest' last')
      ]
