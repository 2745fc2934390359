-- The marks of the proposals that are kept.
use Rattle.std.proofs.Common.{◌≡◌, ℕ, ◌+◌, ◌-◌, ◌*◌, ◌/◌, ◌%◌, ◌^◌, ◌≤◌, ◌<◌, List, [], ◌∷◌, length, set, get_or, map, replicate, arith, ap, sym, ◌∙◌, refl, inl, inr, Option, None, bit_or, bit_and, w64}
use Rattle.std.specs.Int.{bit_at, bit_not, trailing_zeros}
use Rattle.std.proofs.lemmas.Bool.{cases_eq, cases_lt}
use Rattle.std.proofs.lemmas.Nat.{shr-shr}
use Rattle.std.proofs.lemmas.Nat.Bits.{bit_at-zero, bit_at_above, bit_at-trailing_zeros, bit_at_set_same, bit_at_set_other, bit_at_clear_other}
use Rattle.std.proofs.lemmas.List.{length-set, get_or-set_same, get_or-set_other, get_or-replicate}
use Rattle.xl_wire.specs.declared.proposal.Proposal.{Proposal}
use Rattle.xl_rounds.specs.Positions.{nowhere}
use Rattle.xl_rounds.specs.Rest.{AreKept}

pub none_kept : AreKept 0 nowhere
none_kept = record { places = refl; unmarked = λ i within zero'. get_or-replicate 64 i None None within }

module _ (marks : ℕ) (proposals : List (Option Proposal)) (are : AreKept marks proposals) (place : ℕ) (within : place < 64) where
  put_at : (p : Option Proposal) (i : ℕ) → i < 64 → bit_at (bit_or marks (1 * 2 ^ place % 2 ^ 64)) i ≡ 0 → get_or (set proposals place p) i None ≡ None
  put_at p i low unmarked =
      elim (cases_eq i place) [
        | inl same ↦
            let set' : bit_at (bit_or marks (1 * 2 ^ place % 2 ^ 64)) i ≡ 1 = ap (bit_at (bit_or marks (1 * 2 ^ place % 2 ^ 64))) same ∙ bit_at_set_same w64 marks place within in
            absurd (omega (arith, set', unmarked))
        | inr other ↦ get_or-set_other proposals place i p None other ∙ are.unmarked i low (sym (bit_at_set_other w64 marks place within i other) ∙ unmarked)
      ]

  pub put_kept : (p : Option Proposal) → AreKept (bit_or marks (1 * 2 ^ place % 2 ^ 64)) (set proposals place p)
  put_kept p = record { places = length-set proposals place p ∙ are.places; unmarked = put_at p }

  gone_at : (i : ℕ) → i < 64 → bit_at (bit_and marks (bit_not w64 (1 * 2 ^ place % 2 ^ 64))) i ≡ 0 → get_or (set proposals place None) i None ≡ None
  gone_at i low unmarked =
      elim (cases_eq i place) [
        | inl same ↦ ap (λ k. get_or (set proposals place None) k None) same ∙ get_or-set_same proposals place None None (omega (arith, within, are.places))
        | inr other ↦ get_or-set_other proposals place i None None other ∙ are.unmarked i low (sym (bit_at_clear_other w64 marks place within i low other) ∙ unmarked)
      ]

  pub gone_kept : AreKept (bit_and marks (bit_not w64 (1 * 2 ^ place % 2 ^ 64))) (set proposals place None)
  gone_kept = record { places = length-set proposals place None ∙ are.places; unmarked = gone_at }

-- a place is emptied, and stays marked
pub emptied_kept : (marks : ℕ) (proposals : List (Option Proposal)) (place : ℕ) → place < 64 → AreKept marks proposals → AreKept marks (set proposals place None)
emptied_kept marks proposals place within are = record { places = length-set proposals place None ∙ are.places; unmarked = still }
  where
    still : (i : ℕ) → i < 64 → bit_at marks i ≡ 0 → get_or (set proposals place None) i None ≡ None
    still i low unmarked =
        elim (cases_eq i place) [
          | inl same ↦ ap (λ k. get_or (set proposals place None) k None) same ∙ get_or-set_same proposals place None None (omega (arith, within, are.places))
          | inr other ↦ get_or-set_other proposals place i None None other ∙ are.unmarked i low unmarked
        ]

-- at unmarked places no proposal stands
pub none_stands : (marks : ℕ) (proposals : List (Option Proposal)) (from to : ℕ) → AreKept marks proposals → to ≤ 64 → ((i : ℕ) → from ≤ i → i < to → bit_at marks i ≡ 0) →
    (i : ℕ) → from ≤ i → i < to → get_or proposals i None ≡ None
none_stands marks proposals from to are within unmarked i after before = are.unmarked i (omega (arith, before, within)) (unmarked i after before)

-- ---- the next mark

-- the bits from a place on
bits_from : (marks from i : ℕ) → from ≤ i → bit_at (marks / 2 ^ from) (i - from) ≡ bit_at marks i
bits_from marks from i after =
    let whole : from + (i - from) ≡ i = omega arith in
    ap (λ n. n % 2) (shr-shr marks from (i - from)) ∙ ap (bit_at marks) whole

pub none_marked : (marks from i : ℕ) → marks / 2 ^ from ≡ 0 → from ≤ i → bit_at marks i ≡ 0
none_marked marks from i none after = sym (bits_from marks from i after) ∙ ap (λ n. bit_at n (i - from)) none ∙ bit_at-zero (i - from)

module _ (marks from : ℕ) (fits : marks < 2 ^ 64) (some : 0 < marks / 2 ^ from) where
  small : marks / 2 ^ from < 2 ^ 64
  small = omega (arith, fits)

  pub passed_until : (i : ℕ) → from ≤ i → i < from + trailing_zeros w64 (marks / 2 ^ from) → bit_at marks i ≡ 0
  passed_until i after before =
      sym (bits_from marks from i after) ∙ (bit_at-trailing_zeros w64 (marks / 2 ^ from) some small).2 (i - from) (omega (arith, after, before))

  marked_there : (at : ℕ) → at ≡ from + trailing_zeros w64 (marks / 2 ^ from) → bit_at marks at ≡ 1
  marked_there at is =
      let there : at - from ≡ trailing_zeros w64 (marks / 2 ^ from) = omega (arith, is) in
      sym (bits_from marks from at (omega (arith, is))) ∙ ap (bit_at (marks / 2 ^ from)) there ∙ (bit_at-trailing_zeros w64 (marks / 2 ^ from) some small).1

  pub next_within : from + trailing_zeros w64 (marks / 2 ^ from) < 64
  next_within =
      elim (cases_lt (from + trailing_zeros w64 (marks / 2 ^ from)) 64) [
        | inl lt ↦ lt
        | inr le ↦ absurd (omega (arith, marked_there (from + trailing_zeros w64 (marks / 2 ^ from)) refl, bit_at_above marks 64 (from + trailing_zeros w64 (marks / 2 ^ from)) fits le))
      ]

-- ---- all are removed

abbrev pub gone : {X : Type 0} → Option X → Option X
gone x = None

pub all_gone : {X : Type 0} (xs : List (Option X)) → map gone xs ≡ replicate (length xs) None
all_gone [] = refl
all_gone (x ∷ xs) = ap (λ ys. None ∷ ys) (all_gone xs)
