-- Votes for ledgers, and the branch that they prefer. Each definition is a count of votes over whole chains.
-- Source: rippled's LedgerTrie; Chase and MacBrough, "Analysis of the XRP Ledger Consensus Protocol" (2018), on
-- preferred branches.
use Rattle.std.specs.Prelude.{◌≡◌, ℕ, zero, suc, ◌+◌, ◌-◌, ◌<◌, ◌==◌, ◌&&◌, ◌||◌, not, nat_lt, Bool, false, List, [], ◌∷◌, length, filter, find, max, count_by, Option, Some, None, if◌then◌else◌, All}
use Rattle.std.specs.declared.cmp.Ordering.{Ordering}
use Rattle.std.specs.Ordering.{nat_cmp, ordering_then, is_gt}
use Rattle.std.specs.Cmp.Lexicographic.{slice_cmp}
use Rattle.std.specs.List.{list_any, list_all, range_with_len}
use Rattle.xl_ledger.specs.declared.header.Header.{Header}
use Rattle.xl_ledger.specs.declared.vote.Vote.{Vote}
use Rattle.xl_ledger.specs.Chains.{id_at, seq_at, parent_of, chain}

-- each vote is for a known ledger
abbrev pub AreKnown : List Header → List Vote → Type 0
AreKnown ledgers votes = All (λ v. v.ledger < length ledgers) votes

abbrev pub has_voted : List Vote → ℕ → Bool
has_voted votes member = list_any (λ v. v.member == member) votes

-- the votes of all others
abbrev pub without : List Vote → ℕ → List Vote
without votes member = filter (λ v. not (v.member == member)) votes

-- the same votes in whatever order: votes of each kind are as many
abbrev pub AreSame : List Vote → List Vote → Type 0
AreSame votes moved = (p : Vote → Bool) → count_by p votes ≡ count_by p moved

-- how many votes are for this ledger
abbrev pub tip_of : List Vote → ℕ → ℕ
tip_of votes ledger = count_by (λ v. v.ledger == ledger) votes

-- whether a ledger stands on the chain of another
abbrev pub is_on_chain : List Header → ℕ → ℕ → Bool
is_on_chain ledgers ledger of = list_any (λ x. x == ledger) (chain ledgers of)

-- how many votes are for this ledger or one below it
abbrev pub branch_of : List Header → List Vote → ℕ → ℕ
branch_of ledgers votes ledger = count_by (λ v. is_on_chain ledgers ledger v.ledger) votes

-- how many votes are for an earlier sequence than this, or than the largest issued
abbrev pub uncommitted : List Header → List Vote → ℕ → ℕ → ℕ
uncommitted ledgers votes seq largest = count_by (λ v. nat_lt (seq_at ledgers v.ledger) (max seq largest)) votes

abbrev pub follows : Option ℕ → ℕ → Bool
follows None ledger = false
follows (Some parent) ledger = parent == ledger

-- the children of a ledger for which, or for one below which, there are votes
abbrev pub candidates : List Header → List Vote → ℕ → List ℕ
candidates ledgers votes ledger =
    filter (λ c. follows (parent_of ledgers c) ledger && nat_lt 0 (branch_of ledgers votes c))
    (range_with_len 0 (length ledgers))

-- ids are compared byte by byte
abbrev pub id_rank : List Header → ℕ → ℕ → Ordering
id_rank ledgers a b = slice_cmp nat_cmp (id_at ledgers a).0 (id_at ledgers b).0

-- ledgers are compared by their votes, and then by their ids
abbrev pub rank : List Header → List Vote → ℕ → ℕ → Ordering
rank ledgers votes a b =
    ordering_then (nat_cmp (branch_of ledgers votes a) (branch_of ledgers votes b)) (id_rank ledgers a b)

-- the one that ranks above each other
abbrev pub best_of : List Header → List Vote → List ℕ → Option ℕ
best_of ledgers votes some = find (λ c. list_all (λ d. d == c || is_gt (rank ledgers votes c d)) some) some

abbrev pub others : ℕ → List ℕ → List ℕ
others best some = filter (λ c. not (c == best)) some

-- by how many votes the best is ahead of the second; a tie goes to the greater id by one
abbrev pub margin : List Header → List Vote → ℕ → Option ℕ → ℕ
margin ledgers votes best None = branch_of ledgers votes best
margin ledgers votes best (Some second) =
    branch_of ledgers votes best - branch_of ledgers votes second
    + (if is_gt (id_rank ledgers best second) then 1 else 0)

abbrev pub unless_too_few : List Header → List Vote → ℕ → ℕ → List ℕ → Option ℕ → Option ℕ
unless_too_few ledgers votes largest ledger some None = None
unless_too_few ledgers votes largest ledger some (Some best) =
    let ahead = margin ledgers votes best (best_of ledgers votes (others best some)) in
    if nat_lt (uncommitted ledgers votes (seq_at ledgers ledger + 1) largest) ahead then Some best else None

-- the child to go on to: the best, where its margin exceeds the uncommitted votes
abbrev pub next_of : List Header → List Vote → ℕ → ℕ → Option ℕ
next_of ledgers votes largest ledger =
    let some = candidates ledgers votes ledger in
    unless_too_few ledgers votes largest ledger some (best_of ledgers votes some)

abbrev pub or_stay : ℕ → Option ℕ → (ℕ → ℕ) → ℕ
or_stay ledger None go = ledger
or_stay ledger (Some next) go = go next

-- the ledger at which this many steps down the chains end at the latest
abbrev pub prefer : List Header → List Vote → ℕ → ℕ → ℕ → ℕ
prefer ledgers votes largest zero ledger = ledger
prefer ledgers votes largest (suc n) ledger =
    or_stay ledger (next_of ledgers votes largest ledger) (λ next. prefer ledgers votes largest n next)

-- the preferred ledger: from the root down, as far as it goes. No chain is longer than the ledgers are many
abbrev pub preferred_of : List Header → List Vote → ℕ → Option ℕ
preferred_of ledgers [] largest = None
preferred_of ledgers (v ∷ votes) largest = Some (prefer ledgers (v ∷ votes) largest (length ledgers) 0)

-- The same votes in whatever order are as many for each ledger.
abbrev pub TipsAreSame : Type 0
TipsAreSame = (votes moved : List Vote) (ledger : ℕ) → AreSame votes moved → tip_of votes ledger ≡ tip_of moved ledger

-- So they are for each ledger and those below it.
abbrev pub BranchesAreSame : Type 0
BranchesAreSame = (ledgers : List Header) (votes moved : List Vote) (ledger : ℕ) → AreSame votes moved
    → branch_of ledgers votes ledger ≡ branch_of ledgers moved ledger

-- They prefer the same ledger.
abbrev pub PreferredAreSame : Type 0
PreferredAreSame = (ledgers : List Header) (votes moved : List Vote) (largest : ℕ) → AreSame votes moved
    → preferred_of ledgers votes largest ≡ preferred_of ledgers moved largest
