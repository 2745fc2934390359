-- Two quorums for two ledgers show those who spoke for both.
use Rattle.std.proofs.Common.{◌≡◌, ℕ, ◌+◌, ◌≤◌, Bool, true, cond, List, [], ◌∷◌, arith, inl, inr, sym, subst}
use Rattle.std.specs.Prelude.{count_by, ◌&&◌, IsTrue, nat_eq}
use Rattle.std.specs.List.{IsDistinct}
use Rattle.std.proofs.lemmas.Bool.{and_parts, and_from, or_cases}
use Rattle.std.proofs.lemmas.List.Sums.{count_by-le-length}
use Rattle.xl_base.specs.declared.ids.LedgerId.{LedgerId}
use Rattle.xl_lists.specs.Lists.{TrustedList, IsValid, is_on}
use Rattle.xl_lists.specs.Quorums.{least_shown, liars_shared}
use Rattle.xl_lists.specs.Agreement.{IsBacked, has_said, vouches}
use Rattle.xl_lists.specs.declared.report.Report.{Report}
use Rattle.xl_lists.specs.declared.said.SaidLedger.{SaidLedger}
use Rattle.xl_lists.proofs.Counting.{count_by-cons, count_both, count_shared, count_weaker}

-- at one element
one_in_part : (p r o : Bool) (m n k l : ℕ) → m + n ≤ k + l →
    (cond (p && o) 1 0 + m) + (cond (r && o) 1 0 + n) ≤ (cond (o && (p && r)) 1 0 + k) + (cond o 1 0 + l)
one_in_part p r o m n k l h = grind arith

-- of two tests, within a part, what passes both is at least what they pass together, less the part
both_in_part : (p r o : ℕ → Bool) (xs : List ℕ) →
    count_by (λ m. p m && o m) xs + count_by (λ m. r m && o m) xs ≤ count_by (λ m. o m && (p m && r m)) xs + count_by o xs
both_in_part p r o [] = omega arith
both_in_part p r o (x ∷ xs) =
    rw (count_by-cons (λ m. p m && o m) x xs, count_by-cons (λ m. r m && o m) x xs, count_by-cons (λ m. o m && (p m && r m)) x xs, count_by-cons o x xs)
    (one_in_part (p x) (r x) (o x) _ _ _ _ (both_in_part p r o xs))

pub once_show : (a b : TrustedList) (p r : ℕ → Bool) → IsDistinct nat_eq a.members → IsDistinct nat_eq b.members → a.quorum ≤ count_by p a.members → b.quorum ≤ count_by r b.members →
    least_shown a b ≤ count_by (λ m. is_on b.members m && (p m && r m)) a.members
once_show a b p r once_a once_b by_p by_r =
    omega (
      arith,
      by_p,
      by_r,
      count_both p (is_on b.members) a.members,
      count_both r (is_on a.members) b.members,
      count_shared r a.members b.members once_b,
      count_shared (λ _. true) b.members a.members once_a,
      both_in_part p r (is_on b.members) a.members,
      count_by-le-length (is_on b.members) a.members,
    )

pub quorums_show : (a b : TrustedList) (p r : ℕ → Bool) → IsValid a → IsValid b → a.quorum ≤ count_by p a.members → b.quorum ≤ count_by r b.members →
    least_shown a b ≤ count_by (λ m. is_on b.members m && (p m && r m)) a.members
quorums_show a b p r valid_a valid_b by_p by_r = once_show a b p r valid_a.once valid_b.once by_p by_r

-- who vouches for two ledgers of one sequence is a liar
pub vouches_twice : (liars : List ℕ) (said : List SaidLedger) → ((m s : ℕ) (a b : LedgerId) → IsTrue (has_said said m s a) → IsTrue (has_said said m s b) → a ≡ b) →
    (m s : ℕ) (a b : LedgerId) → ¬ (a ≡ b) → IsTrue (vouches liars said s a m) → IsTrue (vouches liars said s b m) → IsTrue (is_on liars m)
vouches_twice liars said once m s a b differ first second =
    elim (or_cases (is_on liars m) (has_said said m s a) first) [
      | inl liar ↦ liar
      | inr said_a ↦ elim (or_cases (is_on liars m) (has_said said m s b) second) [
        | inl liar ↦ liar
        | inr said_b ↦ absurd (differ (once m s a b said_a said_b))
      ]
    ]

-- two reports of one sequence that differ, each with its quorum: at least so many members of both lists are liars
pub liars_shown : (liars : List ℕ) (said : List SaidLedger) → ((m s : ℕ) (a b : LedgerId) → IsTrue (has_said said m s a) → IsTrue (has_said said m s b) → a ≡ b) →
    (r q : Report) → IsBacked liars said r → IsBacked liars said q → r.seq ≡ q.seq → ¬ (r.id ≡ q.id) →
    least_shown r.list q.list ≤ liars_shared liars r.list.members q.list.members
liars_shown liars said once r q backed_r backed_q same_seq differ =
    let p : ℕ → Bool = vouches liars said r.seq r.id in
    let s : ℕ → Bool = vouches liars said q.seq q.id in
    omega (
      arith,
      once_show r.list q.list p s backed_r.once backed_q.once backed_r.quorum backed_q.quorum,
      count_weaker (λ m. is_on q.list.members m && (p m && s m)) (λ m. is_on q.list.members m && is_on liars m)
          (λ m all.
          let parts = and_parts (is_on q.list.members m) (p m && s m) all in
          let both = and_parts (p m) (s m) parts.1 in
          and_from (is_on q.list.members m) (is_on liars m) parts.0
          (vouches_twice liars said once m r.seq r.id q.id differ both.0 (subst (λ (k : ℕ). IsTrue (vouches liars said k q.id m)) (sym same_seq) both.1)))
          r.list.members,
    )
