-- The way to a ledger: the ledgers below the root on its chain. Source: rippled's LedgerTrie, whose spans are parts of
-- such ways.
use Rattle.std.specs.Prelude.{◌≡◌, ℕ, ◌+◌, ◌≤◌, List, length, take, drop}
use Rattle.xl_ledger.specs.declared.header.Header.{Header}
use Rattle.xl_ledger.specs.Chains.{chain}

-- the chain of a ledger, without the root
unfoldable pub way : List Header → ℕ → List ℕ
way ledgers ledger = drop 1 (chain ledgers ledger)

-- x stands on the way to a ledger, or is the root
abbrev pub OnWay : List Header → ℕ → ℕ → Type 0
OnWay ledgers x to = (length (way ledgers x) ≤ length (way ledgers to)) ×
    (take (length (way ledgers x)) (way ledgers to) ≡ way ledgers x)

-- the first ledger after another on the way to a ledger
abbrev pub IsBegin : List Header → ℕ → ℕ → ℕ → Type 0
IsBegin ledgers ledger over begin = way ledgers begin ≡ take (length (way ledgers over) + 1) (way ledgers ledger)
