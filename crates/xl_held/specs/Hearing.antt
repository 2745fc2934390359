-- What a node holds, once it has heard something of a member within a second, that it didn't hold before. Source: this
-- project's own formats.
use Rattle.std.specs.Prelude.{ℕ, ◌==◌, List, ◌++◌, length}
use Rattle.xl_core.specs.Node.{Node, preferred}
use Rattle.xl_noted.specs.declared.heard.NotedLedgers.{NotedLedgers}
use Rattle.xl_noted.specs.declared.heard.NotedPending.{NotedPending}
use Rattle.xl_noted.specs.declared.heard.NotedPosition.{NotedPosition}
use Rattle.xl_noted.specs.declared.heard.NotedVote.{NotedVote}
use Rattle.xl_noted.specs.Same.{is_same_position, is_same_report, is_same_row}
use Rattle.xl_rounds.specs.Positions.{position_of}
use Rattle.xl_sched.specs.declared.named.Named.{Named}
use Rattle.xl_validations.specs.Rows.{current_of}
use Rattle.xl_held.specs.Changes.{agreement_since, ledgers_changed, reports_since, unless}
use Rattle.xl_held.specs.Lines.{pending_line, prefers_line, proposal_line, row_line, time_line}

-- a validation: the member's row, the last report and what is preferred
abbrev pub vote_heard : List Named → ℕ → NotedVote → Node → List ℕ
vote_heard names i b n =
    unless (b.time == n.time) (time_line i n.time)
    ++ unless (is_same_row b.row (current_of n.rows b.member)) (row_line names i b.member (current_of n.rows b.member))
    ++ reports_since names i b.last b.preferred n

-- a proposal: the member's position, and how many agree
abbrev pub proposal_heard : List Named → ℕ → NotedPosition → Node → List ℕ
proposal_heard names i b n =
    unless (b.time == n.time) (time_line i n.time)
    ++ unless (is_same_position b.position (position_of n.round.positions b.member))
    (proposal_line names i b.member (position_of n.round.positions b.member))
    ++ agreement_since i b.agreeing b.proposers n.round

-- a header: the ledgers that came, and what is preferred
abbrev pub header_heard : List Named → ℕ → NotedLedgers → Node → List ℕ
header_heard names i b n =
    unless (b.time == n.time) (time_line i n.time) ++ ledgers_changed names i b.ledgers n
    ++ unless (is_same_report b.preferred (preferred n)) (prefers_line names i (preferred n))

-- a transaction: those that are pending
abbrev pub tx_heard : List Named → ℕ → NotedPending → Node → List ℕ
tx_heard names i b n =
    unless (b.time == n.time) (time_line i n.time)
    ++ unless (b.pending == length n.round.pending) (pending_line names i n.round.pending)

-- a set: nothing but its time
abbrev pub set_heard : ℕ → ℕ → Node → List ℕ
set_heard i time n = unless (time == n.time) (time_line i n.time)
