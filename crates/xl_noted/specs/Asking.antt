-- What is noted of a node before it is asked something, and what stays of it then. Source: this project's own.
use Rattle.std.specs.Prelude.{◌≡◌, ◌≢◌, ◌==◌, ◌&&◌, ℕ, Bool, true, false, None}
use Rattle.xl_core.specs.Node.{Node}
use Rattle.xl_noted.specs.declared.asked.NotedBeat.{NotedBeat}
use Rattle.xl_noted.specs.declared.asked.NotedIssue.{NotedIssue}
use Rattle.xl_noted.specs.Hearing.{vote_noted}
use Rattle.xl_noted.specs.Noted.{round_noted}
use Rattle.xl_noted.specs.Seen.{round_seen}
use Rattle.xl_rounds.specs.declared.phase.Phase.{Phase}
use Rattle.xl_rounds.specs.declared.phase.Phase.TheVariants.{Open, Establish, Accepted}
use Rattle.xl_rounds.specs.Rounds.{Round}
use Rattle.xl_validations.specs.Rows.{current_of}

-- One node is what another was, except for its time, its kept number, the sequence whose save failed, its own row and
-- its last report.
pub record LeavesForIssue (n later : Node) : Type 0 where
  pub list : later.list ≡ n.list
  pub ledgers : later.ledgers ≡ n.ledgers
  pub round : later.round ≡ n.round
  pub rows : (k : ℕ) → k ≢ n.me → current_of later.rows k ≡ current_of n.rows k

-- the round is open still, on the same ledger
abbrev pub is_open : Phase → Bool
is_open Open = true
is_open Establish = false
is_open Accepted = false

abbrev pub is_still : ℕ → Round → Bool
is_still previous r = is_open r.phase && r.setting.previous == previous

-- One node is what another was, except for its time and its round; and that is what it was too, except for what was
-- ready, if it is open still.
pub record LeavesForBeat (n later : Node) : Type 0 where
  pub list : later.list ≡ n.list
  pub ledgers : later.ledgers ≡ n.ledgers
  pub rows : later.rows ≡ n.rows
  pub kept : later.kept ≡ n.kept
  pub failed_save : later.failed_save ≡ n.failed_save
  pub last : later.last ≡ n.last
  pub still : is_still n.round.setting.previous later.round ≡ true → later.round ≡ record n.round { ready = None }

-- what is noted before it issues
abbrev pub issue_noted : Node → NotedIssue
issue_noted n = record { vote = vote_noted n n.me; kept = n.kept; failed_save = n.failed_save }

-- what is noted before a timer
pub record IsBeatNoted (n : Node) (noted : NotedBeat) : Type 0 where
  pub time : noted.time ≡ n.time
  pub previous : noted.previous ≡ n.round.setting.previous
  pub round : round_seen noted.round ≡ round_noted n.round
