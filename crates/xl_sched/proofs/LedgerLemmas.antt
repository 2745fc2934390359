-- The sequences of declared ledgers.
use Rattle.std.proofs.Common.{◌+◌, ◌≤◌, ℕ, List, [], ◌∷◌, ◌++◌, length, Option, Some, None, IfSome, subst, sym, arith}
use Rattle.std.proofs.lemmas.List.{length_push}
use Rattle.std.proofs.lemmas.List.Elements.{All-push, All-weaker}
use Rattle.xl_ledger.specs.declared.header.Header.{Header}
use Rattle.xl_sched.specs.declared.named.Named.{Named}
use Rattle.xl_sched.specs.Ledgers.{AreUpTo}

up_to_more : (o : Option Header) (most : ℕ) → IfSome o (λ h. h.seq ≤ most) → IfSome o (λ h. h.seq ≤ most + 1)
up_to_more None most h = h
up_to_more (Some header) most h = omega (arith, h)

-- one name more, and one sequence more that a ledger may have
pub AreUpTo-more : (names : List Named) (named : Named) → AreUpTo (length names) names → IfSome named.header (λ h. h.seq ≤ length names + 1) → AreUpTo (length (names ++ named ∷ [])) (names ++ named ∷ [])
AreUpTo-more names named all one =
    subst (λ (most : ℕ). AreUpTo most (names ++ named ∷ [])) (sym (length_push names named))
    (All-push (λ n. IfSome n.header (λ h. h.seq ≤ length names + 1)) names named
    (All-weaker (λ n. IfSome n.header (λ h. h.seq ≤ length names)) (λ n. IfSome n.header (λ h. h.seq ≤ length names + 1)) (λ n h. up_to_more n.header (length names) h) names all)
    one)
