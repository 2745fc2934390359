-- Jump tables: with each ledger stand its ancestors 1, 2, 4 and so on places up, so far ancestors are few jumps away.
-- Source: jump pointers (Bender and Farach-Colton, "The Level Ancestor Problem Simplified", 2004); how many is this
-- profile's.
use Rattle.std.specs.Prelude.{◌≡◌, ℕ, ◌+◌, ◌-◌, ◌^◌, ◌<◌, List, slice_get, slice_index_or, Some}
use Rattle.xl_ledger.specs.declared.header.Header.{Header}
use Rattle.xl_ledger.specs.Limits.{levels}
use Rattle.xl_ledger.specs.Chains.{seq_at, chain}

-- the ledger of this sequence on the chain of a ledger
abbrev pub ancestor_of : List Header → ℕ → ℕ → ℕ
ancestor_of ledgers place seq = slice_index_or (chain ledgers place) seq 0

-- the ledger 2 ^ level places up, or the root if so many aren't there
abbrev pub jump_of : List Header → ℕ → ℕ → ℕ
jump_of ledgers place level = ancestor_of ledgers place (seq_at ledgers place - 2 ^ level)

-- these are the jumps of a ledger
abbrev pub AreJumps : List Header → ℕ → List ℕ → Type 0
AreJumps ledgers place jumps = (level : ℕ) → level < levels → slice_get jumps level ≡ Some (jump_of ledgers place level)

-- and these are those of a ledger that follows this one
abbrev pub AreJumpsBelow : List Header → ℕ → List ℕ → Type 0
AreJumpsBelow ledgers parent jumps = (level : ℕ) → level < levels
    → slice_get jumps level ≡ Some (ancestor_of ledgers parent (seq_at ledgers parent + 1 - 2 ^ level))
