-- If no listed member is without a key, each has one.
use Rattle.std.proofs.Common.{◌≡◌, ℕ, zero, suc, ◌+◌, ◌-◌, ◌<◌, ◌≤◌, ◌==◌, Bool, true, false, not, List, get_or, Option, Some, None, IsSome, refl, sym, ap, subst, ◌∙◌, inl, inr, arith}
use Rattle.std.specs.Prelude.{◌&&◌, ◌⊎◌, find}
use Rattle.std.specs.List.{range_with_len}
use Rattle.std.specs.Option.{is_none}
use Rattle.std.proofs.lemmas.Bool.{cases_Bool, cond_both, cond-true, cond-false, eqb-true, eq-eqb}
use Rattle.std.proofs.lemmas.List.Folds.{list_any_at}
use Rattle.xl_lists.specs.Lists.{TrustedList, IsValid, is_on}
use Rattle.xl_tags.specs.Missing.{is_missing, lowest_missing}
use Rattle.xl_tags.specs.Opening.{HasKeys}
use Rattle.xl_tags.specs.Rings.{Ring, key_of}

-- the numbers from one on, one fewer
pub from_next : (p : ℕ → Bool) (n k : ℕ) → 0 < k → p n ≡ false → find p (range_with_len n k) ≡ find p (range_with_len (n + 1) (k - 1))
from_next p n zero some fails = absurd (omega (arith, some))
from_next p n (suc k) some fails = cond-false (p n) (Some n) (find p (range_with_len (n + 1) k)) fails ∙ ap (λ (j : ℕ). find p (range_with_len (n + 1) j)) (omega arith)

pub found_first : (p : ℕ → Bool) (n k : ℕ) → 0 < k → p n ≡ true → find p (range_with_len n k) ≡ Some n
found_first p n zero some passes = absurd (omega (arith, some))
found_first p n (suc k) some passes = cond-true (p n) (Some n) (find p (range_with_len (n + 1) k)) passes

-- none is found among numbers only if none passes
none_passes : (p : ℕ → Bool) (k n m : ℕ) → find p (range_with_len n k) ≡ None → n ≤ m → m < n + k → p m ≡ false
none_passes p zero n m none low high = absurd (omega (arith, low, high))
none_passes p (suc k) n m none low high =
    cond_both (p n) (Some n) (find p (range_with_len (n + 1) k)) (λ o. o ≡ None → p m ≡ false)
    (λ _ never. absurd cc)
    (λ fails rest. elim (first n m low) [
      | inl same ↦ subst (λ (j : ℕ). p j ≡ false) same fails
      | inr later ↦ none_passes p k (n + 1) m rest (omega (arith, later)) (omega (arith, high))
    ])
    none
  where
    first : (a b : ℕ) → a ≤ b → (a ≡ b) ⊎ (a < b)
    first a b le = grind (arith)

has_key : (o : Option (List ℕ)) → is_none o ≡ false → IsSome o
has_key None e = absurd cc
has_key (Some key) e = refl

-- at the start all numbers are left
pub at_first : (ring : Ring) (members : List ℕ) → find (is_missing ring members) (range_with_len 1 64) ≡ lowest_missing ring members
unfolding lowest_missing
at_first ring members = refl

pub all_met : (ring : Ring) (list : TrustedList) → IsValid list → lowest_missing ring list.members ≡ None → HasKeys ring list.members
all_met ring list valid none = λ k d within other.
    let m : ℕ = get_or list.members k d in
    let number = valid.numbers k d within in
    let on : is_on list.members m ≡ true = list_any_at (λ (j : ℕ). m == j) list.members k d within (eq-eqb m m refl) in
    let apart : (m == ring.me) ≡ false = elim (cases_Bool (m == ring.me)) [
      | inl same ↦ absurd (other (eqb-true m ring.me same))
      | inr other_one ↦ other_one
    ] in
    let passes : is_missing ring list.members m ≡ false = none_passes (is_missing ring list.members) 64 1 m (at_first ring list.members ∙ none) number.0 (omega (arith, number.1)) in
    let keyed : is_none (key_of ring m) ≡ false = sym (ap (λ (b : Bool). b && not (m == ring.me) && is_none (key_of ring m)) on ∙ ap (λ (b : Bool). not b && is_none (key_of ring m)) apart) ∙ passes in
    has_key (key_of ring m) keyed
