-- Buckets are cleared, ledger by ledger.
use Rattle.std.proofs.Common.{◌≡◌, ℕ, suc, ◌+◌, ◌<◌, ◌==◌, List, length, get_or, set, replicate, Option, Some, None, refl, sym, ap, subst, ◌∙◌, arith, inl, inr}
use Rattle.std.proofs.lemmas.Bool.Decides.{eqb_tells}
use Rattle.std.proofs.lemmas.Bool.{cond-true, cond-false}
use Rattle.std.proofs.lemmas.List.{ext_get_or, length-set, length-replicate, get_or-set_same, get_or-set_other, get_or-replicate}
use Rattle.xl_base.specs.declared.ids.LedgerId.{LedgerId}
use Rattle.xl_ledger.specs.declared.ledger.Ledger.{Ledger}
use Rattle.xl_ledger.specs.Chains.{root_id, ids}
use Rattle.xl_ledger.specs.Tables.{bucket_of, last_in, headers_of, IsIndexed}

-- a bucket is empty once a ledger of it was come upon
abbrev pub cleared : Option ℕ → Option ℕ → Option ℕ
cleared None before = before
cleared (Some place) before = None

own_cleared : (o : Option ℕ) → cleared o o ≡ None
own_cleared None = refl
own_cleared (Some place) = refl

-- the buckets of the first n ledgers are empty, and the others are as they were
abbrev pub AreCleared : List LedgerId → List (Option ℕ) → List (Option ℕ) → ℕ → Type 0
AreCleared known before now n =
    (length now ≡ length before)
    × ((bucket : ℕ) → bucket < length before → get_or now bucket None ≡ cleared (last_in known (length before) bucket n) (get_or before bucket None))

pub none_cleared : (known : List LedgerId) (table : List (Option ℕ)) → AreCleared known table table 0
none_cleared known table = (refl, λ bucket within. refl)

-- one ledger more
pub cleared_more : (known : List LedgerId) (before now : List (Option ℕ)) (n own : ℕ) → own < length before → own ≡ bucket_of (length before) (get_or known n root_id) → AreCleared known before now n
    → AreCleared known before (set now own None) (n + 1)
cleared_more known before now n own lt at are =
    subst (AreCleared known before (set now own None)) (let next : suc n ≡ n + 1 = omega arith in next) (length-set now own None ∙ are.0, at_bucket)
  where
    at_bucket : (b : ℕ) → b < length before → get_or (set now own None) b None ≡ cleared (last_in known (length before) b (suc n)) (get_or before b None)
    at_bucket b within =
        let is_own = bucket_of (length before) (get_or known n root_id) == b in
        let rest = last_in known (length before) b n in
        elim (eqb_tells own b) [
          | inl h ↦
              subst (λ (k : ℕ). get_or (set now own None) k None ≡ None) h.1 (get_or-set_same now own None None (omega (arith, are.0, lt)))
              ∙ ap (λ (o : Option ℕ). cleared o (get_or before b None)) (sym (cond-true is_own (Some n) rest (ap (λ (k : ℕ). k == b) (sym at) ∙ h.0)))
          | inr h ↦
              get_or-set_other now own b None None (λ same. h.1 (sym same)) ∙ are.1 b within
              ∙ ap (λ (o : Option ℕ). cleared o (get_or before b None)) (sym (cond-false is_own (Some n) rest (ap (λ (k : ℕ). k == b) (sym at) ∙ h.0)))
        ]

-- after all ledgers no bucket leads to one
pub all_cleared : (ledgers : List Ledger) (table now : List (Option ℕ)) → IsIndexed ledgers table → AreCleared (ids (headers_of ledgers)) table now (length ledgers) → now ≡ replicate (length table) None
all_cleared ledgers table now ok are =
    let known = ids (headers_of ledgers) in
    ext_get_or None now (replicate (length table) None) (are.0 ∙ sym (length-replicate {A = Option ℕ} (length table) None))
    (λ i h.
    let within : i < length table = omega (arith, h, are.0) in
    are.1 i within ∙ ap (cleared (last_in known (length table) i (length ledgers))) (ok.last i within) ∙ own_cleared (last_in known (length table) i (length ledgers))
    ∙ sym (get_or-replicate (length table) i None None within))
