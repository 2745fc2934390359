-- Quorums of two lists, and the test by which they must share a member that does not lie. Source: this project's own
-- counting.
use Rattle.std.specs.Prelude.{ℕ, ◌+◌, ◌-◌, ◌<◌, ◌≤◌, ◌&&◌, Bool, List, length, count_by, IsTrue, IsFalse}
use Rattle.xl_lists.specs.Lists.{TrustedList, is_on}

-- how many members two lists share
abbrev pub overlap : List ℕ → List ℕ → ℕ
overlap a b = count_by (is_on b) a

-- how many of these are liars
abbrev pub liars_shared : List ℕ → List ℕ → List ℕ → ℕ
liars_shared liars a b = count_by (λ m. is_on b m && is_on liars m) a

-- what two quorums together must exceed: both lists' sizes, minus the overlap, plus the liars in the overlap
abbrev pub bound_of : List ℕ → TrustedList → TrustedList → ℕ
bound_of liars a b =
    length a.members + length b.members - overlap a.members b.members + liars_shared liars a.members b.members

-- the two quorums exceed it
abbrev pub Enough : List ℕ → TrustedList → TrustedList → Type 0
Enough liars a b = bound_of liars a b < a.quorum + b.quorum

-- where as many members of the one list as its quorum pass a test, and of the other another, some member passes both
-- and is no liar
abbrev pub QuorumsMeet : List ℕ → TrustedList → TrustedList → Type 0
QuorumsMeet liars a b = (p r : ℕ → Bool) → a.quorum ≤ count_by p a.members → b.quorum ≤ count_by r b.members →
    (m : ℕ) × IsTrue (p m) × IsTrue (r m) × IsFalse (is_on liars m)

-- how many members of both lists must have spoken for both ledgers if the quorums report different ones: both quorums
-- together, less both lists' sizes without the overlap; 0 if that is more
abbrev pub least_shown : TrustedList → TrustedList → ℕ
least_shown a b = a.quorum + b.quorum - (length a.members + length b.members - overlap a.members b.members)
