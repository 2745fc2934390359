-- Votes and flag reports so far, whatever is kept of them. Source: this project's own way to say one rule over a list
-- and over less than that.
use Rattle.std.specs.Prelude.{ℕ, List}
use Rattle.xl_base.specs.declared.ids.TxId.{TxId}
use Rattle.xl_flags.specs.declared.news.FlagLine.{FlagLine}

-- what is known of what is kept, and what it becomes
pub record Keeping (V : Type 0) : Type 0 where
  -- how many different amendments are named by then, if a member votes for this fee and these
  pub named : V → ℕ → ℕ → List TxId → ℕ
  -- that vote is in force
  pub voted : V → ℕ → ℕ → List TxId → V
  -- the sequence of a node's last flag report, or 0
  pub last : V → ℕ → ℕ
  -- what a node's flag report says, of a ledger of this sequence and close time that these members validated
  pub news : V → ℕ → ℕ → ℕ → List ℕ → List FlagLine
  -- that report was made
  pub reported : V → ℕ → ℕ → ℕ → List ℕ → V
  -- how many flag reports there were
  pub count : V → ℕ
