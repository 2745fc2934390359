-- Whether a ledger stands on a chain, by what stands there at its sequence.
use Rattle.std.proofs.Common.{◌≡◌, ℕ, ◌<◌, ◌==◌, Bool, true, false, List, length, Some, slice_get, refl, sym, ap, ◌∙◌, arith}
use Rattle.std.proofs.lemmas.Bool.{eqb-true, eq-eqb}
use Rattle.std.proofs.lemmas.Option.{slice_get_within}
use Rattle.xl_ledger.specs.declared.header.Header.{Header}
use Rattle.xl_ledger.specs.Chains.{seq_at, chain, AreLedgers}
use Rattle.xl_ledger.specs.Votes.{is_on_chain}
use Rattle.xl_ledger.proofs.ChainLaws.{of_chain, length-chain}
use Rattle.xl_ledger.proofs.Finding.{false_if, some_is, stands_if, any_if}

module _ (ls : List Header) (ok : AreLedgers ls) where
  pub on_low : (ledger of : ℕ) → of < length ls → seq_at ls of < seq_at ls ledger → false ≡ is_on_chain ls ledger of
  on_low ledger of within lt = sym (false_if (is_on_chain ls ledger of) (λ t.
      let there = stands_if (chain ls of) ledger t in
      let is = of_chain ls ok of within there.at ledger there.is in
      omega (arith, is.seq, slice_get_within (chain ls of) there.at ledger there.is, length-chain ls of)))

  pub on_at : (ledger of r : ℕ) → of < length ls → slice_get (chain ls of) (seq_at ls ledger) ≡ Some r → (r == ledger) ≡ is_on_chain ls ledger of
  on_at ledger of r within at = by_cases (is_on_chain ls ledger of) refl
    where
      by_cases : (b : Bool) → is_on_chain ls ledger of ≡ b → (r == ledger) ≡ is_on_chain ls ledger of
      by_cases true is =
          let there = stands_if (chain ls of) ledger is in
          let place = of_chain ls ok of within there.at ledger there.is in
          eq-eqb r ledger (some_is r ledger (sym at ∙ ap (slice_get (chain ls of)) place.seq ∙ there.is)) ∙ sym is
      by_cases false is = false_if (r == ledger) (λ t. let on = any_if (chain ls of) ledger (seq_at ls ledger) (at ∙ ap Some (eqb-true r ledger t)) in let f : true ≡ false = sym on ∙ is in cc) ∙ sym is
