-- Known ledgers in the order of a count, and of their ids where the counts are alike: no two of them are equal.
use Rattle.std.proofs.Common.{◌≡◌, ◌≢◌, ◌⊎◌, ℕ, ◌<◌, Bool, true, false, List, length, refl, sym, ap, arith, inl, inr}
use Rattle.std.specs.declared.cmp.Ordering.{Ordering}
use Rattle.std.specs.declared.cmp.Ordering.TheVariants.{Less, Equal, Greater}
use Rattle.std.specs.Ordering.{nat_cmp, ordering_then, ordering_reverse, is_gt}
use Rattle.std.specs.Cmp.{IsTotalOrder}
use Rattle.std.proofs.lemmas.Cmp.{upto, nat_cmp_total, nat_list_cmp_total, on_total, then_total}
use Rattle.std.proofs.lemmas.Map.Lookups.{exact_bytes}
use Rattle.std.proofs.lemmas.Bool.{cases_lt}
use Rattle.xl_base.specs.declared.ids.LedgerId.{LedgerId}
use Rattle.xl_ledger.specs.declared.header.Header.{Header}
use Rattle.xl_ledger.specs.Chains.{id_at, AreLedgers}
use Rattle.xl_ledger.specs.Votes.{id_rank}
use Rattle.xl_ledger.proofs.ChainLaws.{earlier_differs}
use Rattle.xl_ledger.proofs.TableLaws.{same_self}

abbrev pub by_count : List Header → (ℕ → ℕ) → ℕ → ℕ → Ordering
by_count ls count a b = ordering_then (nat_cmp (count a) (count b)) (id_rank ls a b)

back : (r s : Ordering) → s ≡ ordering_reverse r → is_gt r ≡ true → is_gt s ≡ false
back Less s e gt = absurd cc
back Equal s e gt = absurd cc
back Greater s e gt = ap is_gt e

forth : (r s : Ordering) → s ≡ ordering_reverse r → is_gt r ≡ false → (r ≡ Equal → ⊥) → is_gt s ≡ true
forth Less s e le other = ap is_gt e
forth Equal s e le other = absurd (other refl)
forth Greater s e le other = absurd cc

second_equal : (r s : Ordering) → ordering_then r s ≡ Equal → s ≡ Equal
second_equal Less s e = absurd cc
second_equal Equal s e = e
second_equal Greater s e = absurd cc

bytes_of : (a b : LedgerId) → a.0 ≡ b.0 → a ≡ b
bytes_of a b e = ap (λ (x : List ℕ). let id : LedgerId = record { 0 = x } in id) e

true_or : (b : Bool) → (b ≡ true) ⊎ (b ≡ false)
true_or true = inl refl
true_or false = inr refl

module _ (ls : List Header) (ok : AreLedgers ls) where
  pub ids_differ : (a b : ℕ) → a < length ls → b < length ls → a ≢ b → (id_at ls a).0 ≡ (id_at ls b).0 → ⊥
  ids_differ a b la lb other e =
      let same = bytes_of (id_at ls a) (id_at ls b) e in
      elim (cases_lt a b) [
        | inl lt ↦ let d = earlier_differs ls ok a b lt lb in let t = same_self (id_at ls b) (id_at ls a) (sym same) in cc
        | inr ge ↦ elim (cases_lt b a) [
          | inl lt ↦ let d = earlier_differs ls ok b a lt la in let t = same_self (id_at ls a) (id_at ls b) same in cc
          | inr le ↦ other (omega arith)
        ]
      ]

  module _ (count : ℕ → ℕ) where
    order : IsTotalOrder (by_count ls count)
    order = then_total (on_total count nat_cmp_total) (on_total (λ (c : ℕ). (id_at ls c).0) nat_list_cmp_total)

    pub gt_back : (a b : ℕ) → is_gt (by_count ls count a b) ≡ true → is_gt (by_count ls count b a) ≡ false
    gt_back a b h = back (by_count ls count a b) (by_count ls count b a) (order.antisymm b a) h

    pub gt_then : (a b c : ℕ) → is_gt (by_count ls count a b) ≡ true → is_gt (by_count ls count b c) ≡ true → is_gt (by_count ls count a c) ≡ true
    gt_then a b c p q = elim (true_or (is_gt (by_count ls count a c))) [
      | inl more ↦ more
      | inr less ↦ let h = upto order b a c (gt_back a b p) less in absurd cc
    ]

    pub gt_or : (a b : ℕ) → a < length ls → b < length ls → a ≢ b → is_gt (by_count ls count a b) ≡ false → is_gt (by_count ls count b a) ≡ true
    gt_or a b la lb other h =
        forth (by_count ls count a b) (by_count ls count b a) (order.antisymm b a) h
        (λ e. ids_differ a b la lb other (exact_bytes (id_at ls a).0 (id_at ls b).0 (second_equal (nat_cmp (count a) (count b)) (id_rank ls a b) e)))
