-- What a node heard since it opened, whatever is kept of it. Source: this project's own way to say one rule over a list
-- and over less than that.
use Rattle.std.specs.Prelude.{ℕ, List}
use Rattle.xl_ledger.specs.declared.header.Header.{Header}
use Rattle.xl_lists.specs.declared.said.SaidLedger.{SaidLedger}

-- what is known of what is kept, and what it becomes
pub record Keeping (H : Type 0) : Type 0 where
  -- nothing was heard
  pub nothing : H
  -- something more was heard
  pub heard : H → SaidLedger → H
  -- the scores of all numbers, from 1 on, at a flag ledger
  pub scores : List Header → H → ℕ → List ℕ
