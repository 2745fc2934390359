-- The most frequent of the times so far, one time after the other, and the choice that it makes.
use Rattle.std.proofs.Common.{◌≡◌, ℕ, ◌+◌, ◌≤◌, ◌<◌, true, false, List, [], ◌∷◌, ◌++◌, None, length, take, get_or, arith, ap, sym, ◌∙◌, subst}
use Rattle.std.specs.Prelude.{◌==◌, nat_le, All, if◌then◌else◌}
use Rattle.std.specs.List.{list_any}
use Rattle.std.proofs.lemmas.Bool.{cond_both, or_left, or_right}
use Rattle.std.proofs.lemmas.Bool.Decides.{nat_tests}
use Rattle.std.proofs.lemmas.List.{take_more}
use Rattle.std.proofs.lemmas.List.Folds.{list_any-append}
use Rattle.std.proofs.lemmas.List.Elements.{All-push, All-weaker}
use Rattle.xl_closetime.specs.Choices.{occurrences, needed, rising_times, choice_of, choice_among}
use Rattle.xl_closetime.specs.Frequent.{beats, IsMostFrequent}
use Rattle.xl_closetime.specs.declared.choice.Frequent.{Frequent}
use Rattle.xl_closetime.specs.Numbers.{agreed_percent}
use Rattle.xl_closetime.proofs.Walking.{All-rising, Rises-rising, found_rising, walk_finds, walk_stays}

module _ (times seen : List ℕ) (most other : Frequent) (count : other.count ≡ occurrences times other.time) where
  kept : beats other most ≡ false → IsMostFrequent times seen most → IsMostFrequent times (seen ++ other.time ∷ []) most
  kept not_more before = record {
    found = λ some. list_any-append (λ t. t == most.time) seen (other.time ∷ []) ∙ or_left _ _ (before.found some);
    counted = before.counted;
    greatest = All-push (λ t. occurrences times t ≤ most.count) seen other.time before.greatest (grind (arith, nat_tests));
    last = All-push (λ t. most.time < t → occurrences times t < most.count) seen other.time before.last (λ later. grind (arith, nat_tests));
  }

  above : beats other most ≡ true → (u : ℕ) → occurrences times u ≤ most.count → (most.time < u → occurrences times u < most.count) → other.time < u → occurrences times u < other.count
  above more u at_most last later = grind (arith, nat_tests)

  taken : beats other most ≡ true → IsMostFrequent times seen most → IsMostFrequent times (seen ++ other.time ∷ []) other
  taken more before = record {
    found = λ _. list_any-append (λ t. t == other.time) seen (other.time ∷ [])
        ∙ or_right (list_any (λ t. t == other.time) seen) (list_any (λ t. t == other.time) (other.time ∷ [])) (grind (arith, nat_tests));
    counted = λ _. count;
    greatest = All-push (λ t. occurrences times t ≤ other.count) seen other.time
        (All-weaker (λ t. occurrences times t ≤ most.count) (λ t. occurrences times t ≤ other.count) (λ t at_most. grind (arith, nat_tests)) seen before.greatest)
        (omega arith);
    last = All-push (λ t. other.time < t → occurrences times t < other.count) seen other.time
        (λ k d within. above more (get_or seen k d) (before.greatest k d within) (before.last k d within))
        (λ later. absurd (omega arith));
  }

  -- one time more
  pub most_frequent_more : IsMostFrequent times seen most → IsMostFrequent times (seen ++ other.time ∷ []) (if beats other most then other else most)
  most_frequent_more before =
      cond_both (beats other most) other most (IsMostFrequent times (seen ++ other.time ∷ [])) (λ more. taken more before) (λ less. kept less before)

-- one more of the times at the front
pub most_frequent_front : (times : List ℕ) (i : ℕ) (most other result : Frequent) → i < length times →
    other.time ≡ get_or times i 0 → other.count ≡ occurrences times other.time → result ≡ (if beats other most then other else most) →
    IsMostFrequent times (take i times) most → IsMostFrequent times (take (i + 1) times) result
most_frequent_front times i most other result within here count is before =
    subst (λ ts. IsMostFrequent times ts result) (ap (λ (t : ℕ). take i times ++ t ∷ []) here ∙ sym (take_more times i 0 within))
    (subst (IsMostFrequent times (take i times ++ other.time ∷ [])) (sym is) (most_frequent_more times (take i times) most other count before))

module _ (times : List ℕ) (percent : ℕ) (most : Frequent) (is : IsMostFrequent times times most) where
  pub none_chosen : most.count < needed (length times) percent → choice_among times percent ≡ record { close = 0; agreed = false }
  none_chosen few =
      let below : All (λ t. occurrences times t < needed (length times) percent) times =
      All-weaker (λ t. occurrences times t ≤ most.count) (λ t. occurrences times t < needed (length times) percent) (λ t at_most. omega arith) times is.greatest in
      ap (choice_of times) (walk_stays (occurrences times) (needed (length times) percent) None (rising_times times)
      (All-rising (λ t. occurrences times t < needed (length times) percent) times below))

  pub last_is_chosen : needed (length times) percent ≤ most.count →
      choice_among times percent ≡ record { close = most.time; agreed = nat_le (needed (length times) agreed_percent) most.count }
  last_is_chosen many =
      let some : 1 ≤ most.count = grind (arith, nat_tests) in
      let counted : most.count ≡ occurrences times most.time = is.counted some in
      let reached : needed (length times) percent ≤ occurrences times most.time = omega arith in
      let greatest : All (λ t. occurrences times t ≤ occurrences times most.time) times =
      All-weaker (λ t. occurrences times t ≤ most.count) (λ t. occurrences times t ≤ occurrences times most.time) (λ t at_most. omega arith) times is.greatest in
      let last : All (λ t. most.time < t → occurrences times t < occurrences times most.time) times =
      All-weaker (λ t. most.time < t → occurrences times t < most.count) (λ t. most.time < t → occurrences times t < occurrences times most.time)
      (λ t below later. omega (arith, below later)) times is.last in
      ap (choice_of times) (walk_finds (occurrences times) most.time (needed (length times) percent) None (rising_times times)
      (Rises-rising times) (found_rising most.time times (is.found some)) reached
      (All-rising (λ t. occurrences times t ≤ occurrences times most.time) times greatest)
      (All-rising (λ t. most.time < t → occurrences times t < occurrences times most.time) times last))
      ∙ ap (λ (n : ℕ). record { close = most.time; agreed = nat_le (needed (length times) agreed_percent) n }) (sym counted)
