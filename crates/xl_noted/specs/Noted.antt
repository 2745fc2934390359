-- What is noted of a node before an event. Source: this project's own.
use Rattle.std.specs.Prelude.{ℕ, ◌==◌, List, find, map, length, Option}
use Rattle.std.specs.Option.{option_and_then}
use Rattle.xl_base.specs.declared.ids.TxId.{TxId}
use Rattle.xl_core.specs.declared.last.LastReport.{LastReport}
use Rattle.xl_core.specs.declared.report.Report.{Report}
use Rattle.xl_core.specs.Node.{Node, preferred}
use Rattle.xl_noted.specs.declared.members.NotedMember.{NotedMember}
use Rattle.xl_lists.specs.Lists.{TrustedList}
use Rattle.xl_rounds.specs.declared.phase.Mode.{Mode}
use Rattle.xl_rounds.specs.declared.phase.Phase.{Phase}
use Rattle.xl_rounds.specs.Positions.{count_agreeing, count, position_of}
use Rattle.xl_rounds.specs.Rounds.{Round, our_position}
use Rattle.xl_validations.specs.Rows.{current_of}
use Rattle.xl_wire.specs.declared.proposal.Proposal.{Proposal}
use Rattle.xl_wire.specs.declared.validation.Validation.{Validation}

-- its round, beside the members' positions themselves: how many there are, and how many of them name its set
pub record NotedRound : Type 0 where
  pub phase : Phase
  pub mode : Mode
  pub started : ℕ
  pub position : Proposal
  pub own : List TxId
  pub pending : List TxId
  pub proposers : ℕ
  pub agreeing : ℕ

-- what it holds; of members those of its list
pub record Noted : Type 0 where
  pub time : ℕ
  pub kept : ℕ
  pub failed_save : Option ℕ
  pub list : TrustedList
  pub members : List NotedMember
  pub ledgers : ℕ
  pub last : LastReport
  pub preferred : Option Report
  pub round : NotedRound

abbrev pub member_noted : Node → ℕ → NotedMember
member_noted n m = record {
  member = m;
  row = current_of n.rows m;
  position = position_of n.round.positions m;
}

abbrev pub round_noted : Round → NotedRound
round_noted r = record {
  phase = r.phase;
  mode = r.setting.mode;
  started = r.setting.started;
  position = our_position r;
  own = r.positions.own;
  pending = r.pending;
  proposers = count r.positions;
  agreeing = count_agreeing r.positions;
}

abbrev pub noted : Node → Noted
noted n = record {
  time = n.time;
  kept = n.kept;
  failed_save = n.failed_save;
  list = n.list;
  members = map (member_noted n) n.list.members;
  ledgers = length n.ledgers.headers;
  last = n.last;
  preferred = preferred n;
  round = round_noted n.round;
}

-- what was noted of a member, if it stood on the list
abbrev pub noted_of : List NotedMember → ℕ → Option NotedMember
noted_of noted m = find (λ known. known.member == m) noted

-- a member that didn't stand on the list had no validation and no position
abbrev pub row_before : List NotedMember → ℕ → Option Validation
row_before noted m = option_and_then (λ known. known.row) (noted_of noted m)

abbrev pub position_before : List NotedMember → ℕ → Option Proposal
position_before noted m = option_and_then (λ known. known.position) (noted_of noted m)
