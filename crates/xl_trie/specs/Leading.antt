-- Which child of a node leads the others. Source: rippled's LedgerTrie, and its margin between the best child and the
-- second.
use Rattle.std.specs.Prelude.{◌≡◌, ◌≢◌, ◌⊎◌, ℕ, ◌+◌, ◌-◌, ◌<◌, ◌≤◌, List, [], length, Bool, false, Option, Some, None, if◌then◌else◌}
use Rattle.std.specs.Ordering.{nat_cmp, ordering_then, is_gt}
use Rattle.xl_ledger.specs.declared.header.Header.{Header}
use Rattle.xl_ledger.specs.declared.vote.Vote.{Vote}
use Rattle.xl_ledger.specs.Chains.{seq_at}
use Rattle.xl_ledger.specs.Votes.{id_rank, uncommitted, next_of, prefer}
use Rattle.xl_pool.specs.declared.name.Name.{Name}
use Rattle.xl_trie.specs.declared.node.Span.{Span}
use Rattle.xl_trie.specs.Nodes.{In, IsKid}

-- a has more votes than b, or as many and the child on the way to it has the greater id
abbrev pub leads : List Header → Span → Span → Bool
leads ledgers a b = is_gt (ordering_then (nat_cmp a.branch b.branch) (id_rank ledgers a.first b.first))

-- of the children of a that aren't left out, and aren't still to come, no one leads this one
abbrev pub IsBestSoFar : List Header → (Name → Option Span) → Name → Option Name → List Name → Option Name → Type 0
IsBestSoFar ledgers S a out rest None = (b : Name) (n : Span) → IsKid S a b n → In b rest ⊎ (out ≡ Some b)
IsBestSoFar ledgers S a out rest (Some t) =
    (m : Span) × IsKid S a t m × (out ≢ Some t) ×
    ((b : Name) (n : Span) → IsKid S a b n → In b rest ⊎ ((out ≡ Some b) ⊎ (leads ledgers n m ≡ false)))

abbrev pub IsBest : List Header → (Name → Option Span) → Name → Option Name → Option Name → Type 0
IsBest ledgers S a out best = IsBestSoFar ledgers S a out [] best

-- by how many votes the best is ahead of the second; a tie goes to the greater id by one
abbrev pub lead : List Header → Span → Option Span → ℕ
lead ledgers best None = best.branch
lead ledgers best (Some second) =
    best.branch - second.branch + (if is_gt (id_rank ledgers best.first second.first) then 1 else 0)

-- the child on the way to which the votes go on from x; more votes are for it than are uncommitted there
abbrev pub GoesTo : List Header → List Vote → (Name → Option Span) → ℕ → Name → ℕ → Option Name → Type 0
GoesTo ledgers votes S largest a x None = next_of ledgers votes largest x ≡ None
GoesTo ledgers votes S largest a x (Some b) =
    (m : Span) × IsKid S a b m × (next_of ledgers votes largest x ≡ Some m.first) ×
    (uncommitted ledgers votes (seq_at ledgers x + 1) largest < m.branch)

-- from x on the votes prefer r, however many steps down are allowed, if they are enough
abbrev pub EndsAt : List Header → List Vote → ℕ → ℕ → ℕ → Type 0
EndsAt ledgers votes largest x r =
    (k : ℕ) → length ledgers ≤ k + seq_at ledgers x → prefer ledgers votes largest k x ≡ r

-- of the children of a that aren't still to come, none begins with this ledger
abbrev pub NoneBegins : (Name → Option Span) → Name → ℕ → List Name → Type 0
NoneBegins S a first rest = (b : Name) (n : Span) → IsKid S a b n → In b rest ⊎ (n.first ≢ first)

-- the child of a whose span begins with this ledger
abbrev pub BeginsAt : (Name → Option Span) → Name → ℕ → Option Name → Type 0
BeginsAt S a first None = NoneBegins S a first []
BeginsAt S a first (Some b) = (n : Span) × IsKid S a b n × (n.first ≡ first)
