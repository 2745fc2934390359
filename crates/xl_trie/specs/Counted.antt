-- The spots of votes: the root, each voted ledger, and the last common ledger of each two voted ledgers.
-- Source: rippled's LedgerTrie, whose nodes but the root have votes of their own or two children.
use Rattle.std.specs.Prelude.{ℕ, ◌==◌, ◌||◌, Bool, List, length, filter}
use Rattle.std.specs.List.{list_any, range_with_len}
use Rattle.xl_ledger.specs.declared.header.Header.{Header}
use Rattle.xl_ledger.specs.declared.vote.Vote.{Vote}
use Rattle.xl_ledger.specs.Chains.{common_of}

abbrev pub is_spot : List Header → List Vote → ℕ → Bool
is_spot ledgers votes x =
    x == 0 || list_any (λ v. v.ledger == x || list_any (λ w. common_of ledgers v.ledger w.ledger == x) votes) votes

-- each once
abbrev pub spots : List Header → List Vote → List ℕ
spots ledgers votes = filter (is_spot ledgers votes) (range_with_len 0 (length ledgers))
