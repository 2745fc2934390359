-- Why two quorums report one ledger, whatever the nodes are: what is kept of a network at each step. Source: the
-- counting of quorums by Chase and MacBrough, "Analysis of the XRP Ledger Consensus Protocol" (2018), with liars and
-- restarts.
use Rattle.std.specs.Prelude.{◌≡◌, ℕ, ◌≤◌, ◌<◌, ◌==◌, ◌&&◌, ◌||◌, ◌++◌, Bool, List, [], ◌∷◌, Option, Some, None, count_by, nat_eq, All, IsTrue, IfSome}
use Rattle.std.specs.List.{list_any, IsDistinct}
use Rattle.xl_base.specs.Ids.{same_id}
use Rattle.xl_base.specs.declared.ids.LedgerId.{LedgerId}
use Rattle.xl_lists.specs.Lists.{is_on}
use Rattle.xl_lists.specs.Quorums.{Enough}
use Rattle.xl_lists.specs.declared.report.Report.{Report}
use Rattle.xl_lists.specs.declared.said.SaidLedger.{SaidLedger}

-- whether the member said this
abbrev pub has_said : List SaidLedger → ℕ → ℕ → LedgerId → Bool
has_said said m s id = list_any (λ x. x.member == m && x.seq == s && same_id x.id id) said

-- what is said in one step comes to the end
abbrev pub with_said : List SaidLedger → Option SaidLedger → List SaidLedger
with_said said None = said
with_said said (Some x) = said ++ x ∷ []

-- whether the member may vouch for this ledger: it is a liar, or it said so
abbrev pub vouches : List ℕ → List SaidLedger → ℕ → LedgerId → ℕ → Bool
vouches liars said s id m = is_on liars m || has_said said m s id

-- no liar is misquoted, and each other member said it
abbrev pub IsGenuine : List ℕ → List SaidLedger → SaidLedger → Type 0
IsGenuine liars said x = IsTrue (vouches liars said x.seq x.id x.member)

-- a quorum of the report's list, on which each member stands once, vouches for it
pub record IsBacked (liars : List ℕ) (said : List SaidLedger) (r : Report) : Type 0 where
  pub once : IsDistinct nat_eq r.list.members
  pub quorum : r.list.quorum ≤ count_by (vouches liars said r.seq r.id) r.list.members

-- What each step of a network keeps. `Holds m n`: the keeper of m may hold the number n.
-- `Each P`: P holds of each validation that stands in a row, among outgoing items or among what was sent.
pub record KeptFacts (liars : List ℕ) (said : List SaidLedger) (reports : List Report)
    (Holds : ℕ → ℕ → Type 0) (Each : (SaidLedger → Type 0) → Type 0) : Type 0 where
  -- a keeper is never behind what its member said
  pub saved : (m s n : ℕ) (id : LedgerId) → IsTrue (has_said said m s id) → Holds m n → s ≤ n
  -- no member said two ledgers of one sequence
  pub once : (m s : ℕ) (a b : LedgerId) → IsTrue (has_said said m s a) → IsTrue (has_said said m s b) → a ≡ b
  -- what stands anywhere under the name of a member that is no liar was said by it
  pub genuine : Each (IsGenuine liars said)
  -- each report has its quorum
  pub backed : All (IsBacked liars said) reports

-- two reports of one sequence name one ledger, where their quorums together are enough
abbrev pub Agree : List ℕ → List Report → Type 0
Agree liars reports = All (λ r. All (λ q. Enough liars r.list q.list → r.seq ≡ q.seq → r.id ≡ q.id) reports) reports

-- What a step may do: say at most one thing, above a number that its member's keeper held and not above those that it
-- may hold then; keepers do not fall; and only reports with a quorum are added.
pub record IsLawful (liars : List ℕ) (said : List SaidLedger) (spoken : Option SaidLedger) (arisen : List Report)
    (Holds Holds' : ℕ → ℕ → Type 0) : Type 0 where
  pub rises : (m n : ℕ) → Holds' m n → (k : ℕ) × (k ≤ n) × Holds m k
  pub above : IfSome spoken (λ x. (k : ℕ) × (k < x.seq) × Holds x.member k)
  pub saved : IfSome spoken (λ x. (n : ℕ) → Holds' x.member n → x.seq ≤ n)
  pub backed : All (IsBacked liars (with_said said spoken)) arisen

-- The law: where these facts hold of a network, its reports agree. What a keeper may hold is told by a test here, and
-- what stands by a list.
abbrev pub KeptAgrees : Type 0
KeptAgrees =
    (liars : List ℕ) (said : List SaidLedger) (reports : List Report) (holds : ℕ → ℕ → Bool)
    (standing : List SaidLedger) →
    KeptFacts liars said reports (λ m n. IsTrue (holds m n)) (λ P. All P standing) → Agree liars reports

-- and a lawful step keeps them, where what stands after it is genuine
abbrev pub LawfulKeeps : Type 0
LawfulKeeps =
    (liars : List ℕ) (said : List SaidLedger) (reports : List Report) (spoken : Option SaidLedger)
    (arisen : List Report)
    (holds holds' : ℕ → ℕ → Bool) (standing standing' : List SaidLedger) →
    KeptFacts liars said reports (λ m n. IsTrue (holds m n)) (λ P. All P standing) →
    IsLawful liars said spoken arisen (λ m n. IsTrue (holds m n)) (λ m n. IsTrue (holds' m n)) →
    All (IsGenuine liars (with_said said spoken)) standing' →
    KeptFacts liars (with_said said spoken) (reports ++ arisen) (λ m n. IsTrue (holds' m n)) (λ P. All P standing')
