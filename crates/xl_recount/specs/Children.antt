-- Children of a ledger, seen from the votes: each vote is for at most one of them, or for a ledger below it. The code
-- counts so; no public clause cites this file, and proofs/ has that it is what a branch of votes answers.
-- Source: rippled's LedgerTrie, and its margin between the best child and the second.
use Rattle.std.specs.Prelude.{◌≡◌, ◌≢◌, ◌⊎◌, ℕ, ◌+◌, ◌-◌, ◌<◌, List, map, count_by, find, length, IsTrue, IfSome, Option, Some, None, if◌then◌else◌}
use Rattle.std.specs.List.{AllByRecursion}
use Rattle.std.specs.declared.cmp.Ordering.{Ordering}
use Rattle.std.specs.Ordering.{nat_cmp, ordering_then, is_gt}
use Rattle.xl_ledger.specs.declared.header.Header.{Header}
use Rattle.xl_ledger.specs.declared.vote.Vote.{Vote}
use Rattle.xl_ledger.specs.Chains.{parent_of, chain}
use Rattle.xl_ledger.specs.Votes.{follows, id_rank}

-- the child of a ledger that stands on the chain of another
abbrev pub towards : List Header → ℕ → ℕ → Option ℕ
towards ledgers from to = find (λ c. follows (parent_of ledgers c) from) (chain ledgers to)

-- the child that each vote is for, or for a ledger below it
abbrev pub children_of : List Header → List Vote → ℕ → List (Option ℕ)
children_of ledgers votes from = map (λ v. towards ledgers from v.ledger) votes

-- how many votes are for a child, or for a ledger below it
abbrev pub votes_for : List (Option ℕ) → ℕ → ℕ
votes_for children child = count_by (λ c. follows c child) children

-- children are compared by their votes, and then by their ids
abbrev pub child_rank : List Header → List (Option ℕ) → ℕ → ℕ → Ordering
child_rank ledgers children a b =
    ordering_then (nat_cmp (votes_for children a) (votes_for children b)) (id_rank ledgers a b)

-- a ledger that isn't left out
abbrev pub IsOther : Option ℕ → ℕ → Type 0
IsOther None c = Unit {0}
IsOther (Some out) c = c ≢ out

-- a child that some of the votes are counted for, and that isn't left out
abbrev pub IsCounted : List (Option ℕ) → Option ℕ → ℕ → Type 0
IsCounted some out c = (0 < votes_for some c) × IsOther out c

-- of the children that some of the votes are counted for, this one ranks above each other by all votes
abbrev pub Leads : List Header → List (Option ℕ) → List (Option ℕ) → Option ℕ → Option ℕ → Type 0
Leads ledgers all some out None = (c : ℕ) → IsCounted some out c → ⊥
Leads ledgers all some out (Some best) =
    IsCounted some out best
    × ((c : ℕ) → IsCounted some out c → (c ≡ best) ⊎ IsTrue (is_gt (child_rank ledgers all best c)))

-- each is a known ledger
abbrev pub AreChildren : List Header → List (Option ℕ) → Type 0
AreChildren ledgers children = AllByRecursion (λ o. IfSome o (λ c. c < length ledgers)) children

-- by how many votes the best is ahead of the second; a tie goes to the greater id by one
abbrev pub margin_of : List Header → List (Option ℕ) → ℕ → Option ℕ → ℕ
margin_of ledgers children best None = votes_for children best
margin_of ledgers children best (Some second) =
    votes_for children best - votes_for children second
    + (if is_gt (id_rank ledgers best second) then 1 else 0)
