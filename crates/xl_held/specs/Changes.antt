-- What a node holds that it didn't hold before, in lines. Source: this project's own formats.
use Rattle.std.specs.Prelude.{ℕ, ◌==◌, ◌&&◌, Bool, nat_lt, List, [], ◌++◌, length, if◌then◌else◌, Option}
use Rattle.std.specs.List.{flat_map}
use Rattle.xl_core.specs.declared.last.LastReport.{LastReport}
use Rattle.xl_core.specs.declared.report.Report.{Report}
use Rattle.xl_core.specs.Node.{Node, preferred}
use Rattle.xl_noted.specs.declared.members.NotedMember.{NotedMember}
use Rattle.xl_noted.specs.Noted.{Noted, NotedRound, position_before, row_before}
use Rattle.xl_noted.specs.Same.{are_same_ids, is_same_last, is_same_list, is_same_mode, is_same_number, is_same_phase, is_same_position, is_same_proposal, is_same_report, is_same_row}
use Rattle.xl_rounds.specs.Positions.{count_agreeing, count, position_of}
use Rattle.xl_rounds.specs.Rounds.{Round, our_position}
use Rattle.xl_sched.specs.declared.named.Named.{Named}
use Rattle.xl_validations.specs.Rows.{current_of}
use Rattle.xl_held.specs.Lines.{agreement_line, issuing_line, kept_line, known_line, ledger_lines, list_line, pending_line, position_line, prefers_line, proposal_line, report_line, round_line, row_line, set_line, time_line}

-- a line of what isn't the same
abbrev pub unless : Bool → List ℕ → List ℕ
unless same line = if same then [] else line

-- its time, kept number, issuing and list
abbrev pub settings_changed : ℕ → Noted → Node → List ℕ
settings_changed i b n =
    unless (b.time == n.time) (time_line i n.time)
    ++ unless (b.kept == n.kept) (kept_line i n.kept)
    ++ unless (is_same_number b.failed_save n.failed_save) (issuing_line i n.failed_save)
    ++ unless (is_same_list b.list n.list) (list_line i n.list)

abbrev pub row_changed : List Named → ℕ → List NotedMember → Node → ℕ → List ℕ
row_changed names i b n m =
    unless (is_same_row (row_before b m) (current_of n.rows m)) (row_line names i m (current_of n.rows m))

-- the rows of the members of its list
abbrev pub rows_changed : List Named → ℕ → List NotedMember → Node → List ℕ
rows_changed names i b n = flat_map (λ m. row_changed names i b n m) n.list.members

-- how many of the ledgers are left, if it was opened anew, and the ledgers that came
abbrev pub ledgers_changed : List Named → ℕ → ℕ → Node → List ℕ
ledgers_changed names i known n =
    (if nat_lt (length n.ledgers.headers) known then known_line i (length n.ledgers.headers) else [])
    ++ ledger_lines names i n.ledgers.headers known

-- its last report and what it prefers, if they aren't these
abbrev pub reports_since : List Named → ℕ → LastReport → Option Report → Node → List ℕ
reports_since names i last before n =
    unless (is_same_last last n.last) (report_line names i n.last)
    ++ unless (is_same_report before (preferred n)) (prefers_line names i (preferred n))

abbrev pub reports_changed : List Named → ℕ → Noted → Node → List ℕ
reports_changed names i b n = reports_since names i b.last b.preferred n

abbrev pub is_same_round : NotedRound → Round → Bool
is_same_round b r =
    is_same_phase b.phase r.phase && is_same_mode b.mode r.setting.mode && b.started == r.setting.started

-- its own part in its round
abbrev pub round_changed : List Named → ℕ → NotedRound → Round → List ℕ
round_changed names i b r =
    unless (is_same_round b r) (round_line i r)
    ++ unless (is_same_proposal b.position (our_position r)) (position_line names i (our_position r))
    ++ unless (are_same_ids b.own r.positions.own) (set_line names i r.positions.own)
    ++ unless (are_same_ids b.pending r.pending) (pending_line names i r.pending)

abbrev pub proposal_changed : List Named → ℕ → List NotedMember → Node → ℕ → List ℕ
proposal_changed names i b n m =
    unless (is_same_position (position_before b m) (position_of n.round.positions m))
    (proposal_line names i m (position_of n.round.positions m))

-- the positions of the members of its list
abbrev pub proposals_changed : List Named → ℕ → List NotedMember → Node → List ℕ
proposals_changed names i b n = flat_map (λ m. proposal_changed names i b n m) n.list.members

-- how many of the members' positions name its set, if they and the positions aren't as many as these
abbrev pub agreement_since : ℕ → ℕ → ℕ → Round → List ℕ
agreement_since i agreeing proposers r =
    unless (agreeing == count_agreeing r.positions && proposers == count r.positions) (agreement_line i r)

abbrev pub agreement_changed : ℕ → NotedRound → Round → List ℕ
agreement_changed i b r = agreement_since i b.agreeing b.proposers r

-- all that it holds and didn't hold before
abbrev pub changed_lines : List Named → ℕ → Noted → Node → List ℕ
changed_lines names i b n =
    settings_changed i b n ++ rows_changed names i b.members n ++ ledgers_changed names i b.ledgers n
    ++ reports_changed names i b n ++ round_changed names i b.round n.round
    ++ proposals_changed names i b.members n ++ agreement_changed i b.round n.round

-- of a node that was just opened: its time, kept number, issuing and list
abbrev pub settings_opened : ℕ → Node → List ℕ
settings_opened i n = time_line i n.time ++ kept_line i n.kept ++ issuing_line i n.failed_save ++ list_line i n.list

-- its last report, and what it prefers
abbrev pub reports_opened : List Named → ℕ → Node → List ℕ
reports_opened names i n = report_line names i n.last ++ prefers_line names i (preferred n)

-- its own part in its round
abbrev pub round_opened : List Named → ℕ → Round → List ℕ
round_opened names i r =
    round_line i r ++ position_line names i (our_position r) ++ set_line names i r.positions.own
    ++ pending_line names i r.pending

-- what it holds beside no row, no ledger but the root, and no member's position
abbrev pub opened_lines : List Named → ℕ → Node → List ℕ
opened_lines names i n =
    settings_opened i n ++ reports_opened names i n ++ round_opened names i n.round ++ agreement_line i n.round
