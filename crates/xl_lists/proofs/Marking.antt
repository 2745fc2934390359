-- A member's bit, and the bits of a list.
use Rattle.std.proofs.Common.{◌≡◌, ℕ, ◌+◌, ◌-◌, ◌*◌, ◌%◌, ◌^◌, ◌≤◌, ◌<◌, Bool, true, false, List, [], ◌∷◌, ◌++◌, take, length, get_or, arith, ap, subst, sym, ◌∙◌, inl, inr, bit_or, w64}
use Rattle.std.specs.Prelude.{◌==◌, ◌||◌, ◌&&◌, not}
use Rattle.std.specs.Int.{bit_at}
use Rattle.std.proofs.lemmas.Bool.{cases_eq}
use Rattle.std.proofs.lemmas.Bool.Decides.{nat_tests}
use Rattle.std.proofs.lemmas.Nat.Bits.{bit_at_set_same, bit_at_set_other}
use Rattle.std.proofs.lemmas.List.{take_more}
use Rattle.std.proofs.lemmas.List.Folds.{list_any-append}
use Rattle.xl_lists.specs.Marks.{is_marked, AreMarked}

at_zero : (bit old m member : ℕ) → m ≡ 0 → 1 ≤ member → (not (m == 0) && (bit == 1)) ≡ (m == member || (not (m == 0) && (old == 1)))
at_zero bit old m member none low = grind (arith, nat_tests)

at_itself : (bit old m member : ℕ) → m ≡ member → 1 ≤ member → bit ≡ 1 → (not (m == 0) && (bit == 1)) ≡ (m == member || (not (m == 0) && (old == 1)))
at_itself bit old m member same low one = grind (arith, nat_tests)

at_another : (bit old m member : ℕ) → (m ≡ member → ⊥) → bit ≡ old → (not (m == 0) && (bit == 1)) ≡ (m == member || (not (m == 0) && (old == 1)))
at_another bit old m member other same = grind (arith, nat_tests)

-- a bit more is set
pub marked_with : (bits member : ℕ) → 1 ≤ member → member ≤ 64 → (m : ℕ) →
    is_marked (bit_or bits (1 * 2 ^ (member - 1) % 2 ^ 64)) m ≡ (m == member || is_marked bits m)
marked_with bits member low high m =
    elim (cases_eq m member) [
      | inl same ↦ at_itself _ _ m member same low
          (subst (λ (k : ℕ). bit_at (bit_or bits (1 * 2 ^ (member - 1) % 2 ^ 64)) (k - 1) ≡ 1) (sym same) (bit_at_set_same w64 bits (member - 1) (omega arith)))
      | inr other ↦ elim (cases_eq m 0) [
        | inl none ↦ at_zero _ _ m member none low
        | inr some ↦ at_another _ _ m member other (bit_at_set_other w64 bits (member - 1) (omega arith) (m - 1) (omega arith))
      ]
    ]

last_in : (is last on : Bool) → is ≡ on → (last || is) ≡ (on || (last || false))
last_in true true on e = cc
last_in is last on e = cc

-- a member more on the list
pub marked_more : (bits more member : ℕ) (members : List ℕ) → AreMarked bits members →
    ((m : ℕ) → is_marked more m ≡ (m == member || is_marked bits m)) → AreMarked more (members ++ member ∷ [])
marked_more bits more member members before now m =
    now m ∙ last_in _ (m == member) _ (before m) ∙ sym (list_any-append (λ k. m == k) members (member ∷ []))

-- the front of the list is one member longer
pub marked_front : (bits more member i : ℕ) (members : List ℕ) → i < length members → member ≡ get_or members i member → AreMarked bits (take i members) →
    ((m : ℕ) → is_marked more m ≡ (m == member || is_marked bits m)) → AreMarked more (take (i + 1) members)
marked_front bits more member i members within here before now =
    subst (AreMarked more) (ap (λ (k : ℕ). take i members ++ k ∷ []) here ∙ sym (take_more members i member within)) (marked_more bits more member (take i members) before now)
