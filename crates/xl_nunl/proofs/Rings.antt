-- The rings of places when nothing was heard, and a score, one sequence after the other.
use Rattle.std.proofs.Common.{◌≡◌, ℕ, zero, suc, ◌+◌, ◌-◌, ◌<◌, ◌≤◌, Bool, cond, List, [], ◌∷◌, Option, Some, None, length, get_or, replicate, slice_get, refl, sym, ap, ◌∙◌, arith, inl, inr}
use Rattle.std.specs.Prelude.{count_by}
use Rattle.std.specs.List.{range_with_len}
use Rattle.std.proofs.lemmas.Bool.{cases_lt}
use Rattle.std.proofs.lemmas.Option.{get_or_from_slice_get}
use Rattle.xl_ledger.specs.declared.header.Header.{Header}
use Rattle.xl_ledger.specs.Chains.{seq_at, chain, AreLedgers}
use Rattle.xl_ledger.specs.Jumps.{ancestor_of}
use Rattle.xl_ledger.proofs.Ancestors.{own_ancestor, ancestor_twice}
use Rattle.xl_lists.specs.declared.said.SaidLedger.{SaidLedger}
use Rattle.xl_lists.proofs.Counting.{count_by-cons}
use Rattle.xl_nunl.specs.Heard.{agrees, score_of}
use Rattle.xl_nunl.specs.Rings.{Remembers, agrees_in, place_of, score_in}

-- ---- nothing was heard

pub nothing : (n k : ℕ) → get_or (replicate {A = Option SaidLedger} n None) k None ≡ None
nothing zero k = refl
nothing (suc n) zero = refl
nothing (suc n) (suc k) = nothing n k

pub none_heard : (places : List (Option SaidLedger)) (n : ℕ) → places ≡ replicate n None → Remembers places []
none_heard places n none m s low high = ap (λ (xs : List (Option SaidLedger)). get_or xs (place_of m s) None) none ∙ nothing n (place_of m s)

past : (places : List (Option SaidLedger)) (k : ℕ) → length places ≤ k → get_or places k None ≡ None
past [] k le = refl
past (x ∷ xs) zero le = absurd (omega arith)
past (x ∷ xs) (suc k) le = past xs k (omega arith)

pub none_left : (places : List (Option SaidLedger)) (i : ℕ) → length places ≤ i → ((k : ℕ) → k < i → get_or places k None ≡ None) → Remembers places []
none_left places i all each m s low high =
    elim (cases_lt (place_of m s) i) [
      | inl lt ↦ each (place_of m s) lt
      | inr ge ↦ past places (place_of m s) (omega arith)
    ]

-- ---- a score

-- of how many sequences from the top down
abbrev pub counted_down : (ℕ → Bool) → ℕ → ℕ → ℕ
counted_down test top back = count_by test (range_with_len (top + 1 - back) back)

pub one_down : (test : ℕ → Bool) (top back : ℕ) (b : Bool) → back ≤ top → test (top - back) ≡ b → counted_down test top (back + 1) ≡ cond b 1 0 + counted_down test top back
one_down test top back b le told =
    let next : back + 1 ≡ suc back = omega arith in
    let first : top + 1 - (back + 1) ≡ top - back = omega arith in
    let second : top - back + 1 ≡ top + 1 - back = omega arith in
    ap (λ (n : ℕ). count_by test (range_with_len (top + 1 - (back + 1)) n)) next
    ∙ ap (λ (a : ℕ). count_by test (range_with_len a (suc back))) first
    ∙ count_by-cons test (top - back) (range_with_len (top - back + 1) back)
    ∙ ap (λ (c : Bool). cond c 1 0 + count_by test (range_with_len (top - back + 1) back)) told
    ∙ ap (λ (a : ℕ). cond b 1 0 + count_by test (range_with_len a back)) second

pub all_down : (ls : List Header) (heard : List SaidLedger) (m flag back : ℕ) → back ≡ 256 → counted_down (agrees ls heard m flag) (seq_at ls flag) back ≡ score_of ls heard m flag
unfolding score_of
all_down ls heard m flag back end =
    let first : seq_at ls flag + 1 - 256 ≡ seq_at ls flag - 255 = omega arith in
    ap (λ (n : ℕ). count_by (agrees ls heard m flag) (range_with_len (seq_at ls flag + 1 - n) n)) end
    ∙ ap (λ (a : ℕ). count_by (agrees ls heard m flag) (range_with_len a 256)) first

pub all_kept_down : (ls : List Header) (places : List (Option SaidLedger)) (m flag back : ℕ) → back ≡ 256 → counted_down (agrees_in ls places m flag) (seq_at ls flag) back ≡ score_in ls places m flag
unfolding score_in
all_kept_down ls places m flag back end =
    let first : seq_at ls flag + 1 - 256 ≡ seq_at ls flag - 255 = omega arith in
    ap (λ (n : ℕ). count_by (agrees_in ls places m flag) (range_with_len (seq_at ls flag + 1 - n) n)) end
    ∙ ap (λ (a : ℕ). count_by (agrees_in ls places m flag) (range_with_len a 256)) first

pub starts_at : (ls : List Header) (flag top : ℕ) → top ≡ seq_at ls flag → flag ≡ ancestor_of ls flag (top - (0 - 1))
starts_at ls flag top is = let own : top - (0 - 1) ≡ seq_at ls flag = omega arith in sym (own_ancestor ls flag (top - (0 - 1)) own)

-- the ledger that a walk finds above the one where it stands is above the flag ledger too
pub goes_up : (ls : List Header) (flag at s t x : ℕ) → AreLedgers ls → flag < length ls → at ≡ ancestor_of ls flag s → s ≤ seq_at ls flag → t ≤ s →
    slice_get (chain ls at) t ≡ Some x → x ≡ ancestor_of ls flag t
goes_up ls flag at s t x ok known is high lower found =
    sym (get_or_from_slice_get (chain ls at) t x 0 found) ∙ ap (λ (a : ℕ). ancestor_of ls a t) is ∙ ancestor_twice ls ok flag s t known high lower
