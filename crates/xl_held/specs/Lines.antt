-- What a node holds, a line each. Source: this project's own formats.
use Rattle.std.specs.Prelude.{ℕ, ◌-◌, List, ◌++◌, length, decimal, codes, Option}
use Rattle.std.specs.List.{flat_map}
use Rattle.xl_base.specs.declared.ids.TxId.{TxId}
use Rattle.xl_core.specs.declared.last.LastReport.{LastReport}
use Rattle.xl_core.specs.declared.report.Report.{Report}
use Rattle.xl_ledger.specs.Chains.{header_at, id_at}
use Rattle.xl_ledger.specs.declared.header.Header.{Header}
use Rattle.xl_lists.specs.Lists.{TrustedList}
use Rattle.xl_rounds.specs.Positions.{count_agreeing, count}
use Rattle.xl_rounds.specs.Rounds.{Round}
use Rattle.xl_running.specs.Texts.{id_text, newline, space}
use Rattle.xl_sched.specs.declared.named.Named.{Named}
use Rattle.xl_told.specs.Words.{ids_text, list_text, proposal_text}
use Rattle.xl_wire.specs.declared.proposal.Proposal.{Proposal}
use Rattle.xl_wire.specs.declared.validation.Validation.{Validation}
use Rattle.xl_world.specs.Plans.{up_from}
use Rattle.xl_held.specs.Words.{issuing_text, last_text, mode_text, phase_text, position_text, report_text, row_text}

-- a word and a number
abbrev pub number_line : ℕ → List ℕ → ℕ → List ℕ
number_line i word number = codes "held " ++ decimal i ++ word ++ decimal number ++ newline

abbrev pub time_line : ℕ → ℕ → List ℕ
time_line i time = number_line i (codes " time ") time

abbrev pub kept_line : ℕ → ℕ → List ℕ
kept_line i kept = number_line i (codes " kept ") kept

abbrev pub issuing_line : ℕ → Option ℕ → List ℕ
issuing_line i failed = codes "held " ++ decimal i ++ codes " issuing " ++ issuing_text failed ++ newline

abbrev pub list_line : ℕ → TrustedList → List ℕ
list_line i list = codes "held " ++ decimal i ++ codes " list " ++ list_text list ++ newline

-- a member's current validation
abbrev pub row_line : List Named → ℕ → ℕ → Option Validation → List ℕ
row_line names i m row =
    codes "held " ++ decimal i ++ codes " row " ++ decimal m ++ space ++ row_text names row ++ newline

-- it knows no more than so many ledgers
abbrev pub known_line : ℕ → ℕ → List ℕ
known_line i count = number_line i (codes " known ") count

-- the ledger of a place
abbrev pub ledger_line : List Named → ℕ → List Header → ℕ → List ℕ
ledger_line names i ledgers place =
    codes "held " ++ decimal i ++ codes " ledger " ++ decimal (header_at ledgers place).seq ++ space
    ++ id_text names (id_at ledgers place) ++ space ++ id_text names (header_at ledgers place).parent ++ space
    ++ decimal (header_at ledgers place).close ++ newline

-- the ledgers from a place on
abbrev pub ledger_lines : List Named → ℕ → List Header → ℕ → List ℕ
ledger_lines names i ledgers first =
    flat_map (λ place. ledger_line names i ledgers place) (up_from first (length ledgers - first))

abbrev pub report_line : List Named → ℕ → LastReport → List ℕ
report_line names i last = codes "held " ++ decimal i ++ codes " report " ++ last_text names last ++ newline

abbrev pub prefers_line : List Named → ℕ → Option Report → List ℕ
prefers_line names i ledger = codes "held " ++ decimal i ++ codes " prefers " ++ report_text names ledger ++ newline

abbrev pub round_line : ℕ → Round → List ℕ
round_line i r =
    codes "held " ++ decimal i ++ codes " round " ++ phase_text r.phase ++ space ++ mode_text r.setting.mode ++ space
    ++ decimal r.setting.started ++ newline

-- its own position
abbrev pub position_line : List Named → ℕ → Proposal → List ℕ
position_line names i p = codes "held " ++ decimal i ++ codes " position " ++ proposal_text names p ++ newline

-- a word and ids
abbrev pub ids_line : List Named → ℕ → List ℕ → List TxId → List ℕ
ids_line names i word ids = codes "held " ++ decimal i ++ word ++ ids_text names ids ++ newline

abbrev pub set_line : List Named → ℕ → List TxId → List ℕ
set_line names i ids = ids_line names i (codes " set ") ids

abbrev pub pending_line : List Named → ℕ → List TxId → List ℕ
pending_line names i ids = ids_line names i (codes " pending ") ids

-- a member's position
abbrev pub proposal_line : List Named → ℕ → ℕ → Option Proposal → List ℕ
proposal_line names i m position =
    codes "held " ++ decimal i ++ codes " proposal " ++ decimal m ++ space ++ position_text names position ++ newline

-- how many of the members' positions name its set
abbrev pub agreement_line : ℕ → Round → List ℕ
agreement_line i r =
    codes "held " ++ decimal i ++ codes " agreement " ++ decimal (count_agreeing r.positions) ++ space
    ++ decimal (count r.positions) ++ newline
