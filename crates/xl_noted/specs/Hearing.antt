-- What is noted of a node before it hears something, and what stays of it then. Source: this project's own.
use Rattle.std.specs.Prelude.{◌≡◌, ◌≢◌, ◌≤◌, ◌+◌, ◌⊎◌, ℕ, length}
use Rattle.xl_core.specs.declared.hearing.Speech.{Speech}
use Rattle.xl_core.specs.declared.hearing.Speech.TheVariants as speech
use Rattle.xl_core.specs.Node.{Node, preferred}
use Rattle.xl_noted.specs.declared.heard.NotedLedgers.{NotedLedgers}
use Rattle.xl_noted.specs.declared.heard.NotedPending.{NotedPending}
use Rattle.xl_noted.specs.declared.heard.NotedPosition.{NotedPosition}
use Rattle.xl_noted.specs.declared.heard.NotedVote.{NotedVote}
use Rattle.xl_rounds.specs.Positions.{count_agreeing, count, position_of}
use Rattle.xl_rounds.specs.Rounds.{our_position}
use Rattle.xl_validations.specs.Rows.{current_of}

-- One node is what another was, except for its time, its ledgers, its last report, what is pending, and what it holds
-- of a member.
pub record LeavesOthers (m : ℕ) (n later : Node) : Type 0 where
  pub list : later.list ≡ n.list
  pub kept : later.kept ≡ n.kept
  pub failed_save : later.failed_save ≡ n.failed_save
  pub phase : later.round.phase ≡ n.round.phase
  pub setting : later.round.setting ≡ n.round.setting
  pub position : our_position later.round ≡ our_position n.round
  pub own : later.round.positions.own ≡ n.round.positions.own
  pub rows : (k : ℕ) → k ≢ m → current_of later.rows k ≡ current_of n.rows k
  pub positions : (k : ℕ) → 1 ≤ k → k ≢ m →
      position_of later.round.positions k ≡ position_of n.round.positions k

-- What else it then is, by what the member says: of each kind less changes.
abbrev pub LeavesRest : Speech → Node → Node → Type 0
LeavesRest (speech.Validation v) n later = (later.ledgers ≡ n.ledgers) × (later.round ≡ n.round)
LeavesRest (speech.Header h) n later = (later.rows ≡ n.rows) × (later.last ≡ n.last) × (later.round ≡ n.round)
LeavesRest (speech.Proposal p) n later =
    (later.ledgers ≡ n.ledgers) × (later.rows ≡ n.rows) × (later.last ≡ n.last)
    × (later.round.pending ≡ n.round.pending)
LeavesRest (speech.TxSet ids) n later =
    (later.ledgers ≡ n.ledgers) × (later.rows ≡ n.rows) × (later.last ≡ n.last)
    × (later.round.pending ≡ n.round.pending) × (later.round.positions.members ≡ n.round.positions.members)
LeavesRest (speech.Tx tx) n later =
    (later.ledgers ≡ n.ledgers) × (later.rows ≡ n.rows) × (later.last ≡ n.last)
    × (later.round.positions ≡ n.round.positions)
    × ((later.round.pending ≡ n.round.pending) ⊎ (length later.round.pending ≡ length n.round.pending + 1))

-- what is noted before a validation of a member is heard
abbrev pub vote_noted : Node → ℕ → NotedVote
vote_noted n m = record {
  time = n.time;
  member = m;
  row = current_of n.rows m;
  last = n.last;
  preferred = preferred n;
}

-- before a proposal of a member
abbrev pub position_noted : Node → ℕ → NotedPosition
position_noted n m = record {
  time = n.time;
  member = m;
  position = position_of n.round.positions m;
  proposers = count n.round.positions;
  agreeing = count_agreeing n.round.positions;
}

-- before a header
abbrev pub ledgers_noted : Node → NotedLedgers
ledgers_noted n = record { time = n.time; ledgers = length n.ledgers.headers; preferred = preferred n }

-- before a transaction
abbrev pub pending_noted : Node → NotedPending
pending_noted n = record { time = n.time; pending = length n.round.pending }
