-- The lines of what nodes hold, of events and of frames are no report's.
use Rattle.std.proofs.Common.{ℕ, ◌==◌, ◌-◌, ◌+◌, ◌&&◌, List, [], ◌∷◌, ◌++◌, length, refl, Option, Some, None}
use Rattle.std.specs.Prelude.{codes, decimal, nat_lt}
use Rattle.xl_base.specs.declared.ids.TxId.{TxId}
use Rattle.xl_core.specs.declared.last.LastReport.{LastReport}
use Rattle.xl_core.specs.declared.report.Report.{Report}
use Rattle.xl_core.specs.Core.{Core}
use Rattle.xl_core.specs.Node.{Node, preferred}
use Rattle.xl_held.specs.Changes.{agreement_changed, changed_lines, is_same_round, ledgers_changed, opened_lines, proposal_changed, proposals_changed, reports_changed, round_changed, row_changed, rows_changed, settings_changed}
use Rattle.xl_held.specs.Lines.{agreement_line, issuing_line, kept_line, known_line, ledger_line, list_line, pending_line, position_line, prefers_line, proposal_line, report_line, round_line, row_line, set_line, time_line}
use Rattle.xl_ledger.specs.Chains.{header_at, id_at}
use Rattle.xl_ledger.specs.declared.header.Header.{Header}
use Rattle.xl_lists.specs.Lists.{TrustedList}
use Rattle.xl_noted.specs.declared.members.NotedMember.{NotedMember}
use Rattle.xl_noted.specs.Noted.{Noted, NotedRound, position_before, row_before}
use Rattle.xl_noted.specs.Same.{are_same_ids, is_same_last, is_same_list, is_same_number, is_same_position, is_same_proposal, is_same_report, is_same_row}
use Rattle.xl_rounds.specs.Positions.{count_agreeing, count, position_of}
use Rattle.xl_rounds.specs.Rounds.{Round, our_position}
use Rattle.xl_sched.specs.declared.event.Event.{Event}
use Rattle.xl_sched.specs.declared.named.Named.{Named}
use Rattle.xl_tell.specs.Nodes.{all_opened, changed_at, changed_in, opened_in}
use Rattle.xl_tell.specs.Parts.{sent_line, sent_lines}
use Rattle.xl_told.specs.Events.{event_line}
use Rattle.xl_validations.specs.Rows.{current_of}
use Rattle.xl_wire.specs.declared.proposal.Proposal.{Proposal}
use Rattle.xl_wire.specs.declared.validation.Validation.{Validation}
use Rattle.xl_wire.specs.Frames.{decoded_of}
use Rattle.xl_world.specs.Plans.{up_from}
use Rattle.xl_world.specs.Sending.{Sent}
use Rattle.xl_world.specs.World.{World, core_in}
use Rattle.xl_tell.proofs.Leaving.{Leaves, neither, none_of_each, nothing, own, own_if, own_unless}
use Rattle.xl_tell.proofs.Plain.{IsPlain, gap, ids_plain, issuing_plain, join, last_plain, list_plain, mode_plain, named, number, phase_plain, position_plain, proposal_plain, report_plain, row_plain, said_plain, what_plain, word}

-- ONE LINE EACH

headed : (i : ℕ) → IsPlain (codes "held " ++ decimal i)
headed i = join (word (codes "held ") refl) (number i)

time_own : (i time : ℕ) → Leaves (time_line i time) []
time_own i time = own (join (join (headed i) (word (codes " time ") refl)) (number time)) refl

kept_own : (i kept : ℕ) → Leaves (kept_line i kept) []
kept_own i kept = own (join (join (headed i) (word (codes " kept ") refl)) (number kept)) refl

issuing_own : (i : ℕ) (failed : Option ℕ) → Leaves (issuing_line i failed) []
issuing_own i failed = own (join (join (headed i) (word (codes " issuing ") refl)) (issuing_plain failed)) refl

list_own : (i : ℕ) (list : TrustedList) → Leaves (list_line i list) []
list_own i list = own (join (join (headed i) (word (codes " list ") refl)) (list_plain list)) refl

row_own : (names : List Named) (i m : ℕ) (row : Option Validation) → Leaves (row_line names i m row) []
row_own names i m row = own (join (join (join (join (headed i) (word (codes " row ") refl)) (number m)) gap) (row_plain names row)) refl

known_own : (i count : ℕ) → Leaves (known_line i count) []
known_own i count = own (join (join (headed i) (word (codes " known ") refl)) (number count)) refl

ledger_own : (names : List Named) (i : ℕ) (ledgers : List Header) (place : ℕ) → Leaves (ledger_line names i ledgers place) []
ledger_own names i ledgers place =
    own (join (join (join (join (join (join (join (join (headed i) (word (codes " ledger ") refl)) (number (header_at ledgers place).seq)) gap) (named names (id_at ledgers place))) gap) (named names (header_at ledgers place).parent)) gap) (number (header_at ledgers place).close)) refl

report_own : (names : List Named) (i : ℕ) (last : LastReport) → Leaves (report_line names i last) []
report_own names i last = own (join (join (headed i) (word (codes " report ") refl)) (last_plain names last)) refl

prefers_own : (names : List Named) (i : ℕ) (ledger : Option Report) → Leaves (prefers_line names i ledger) []
prefers_own names i ledger = own (join (join (headed i) (word (codes " prefers ") refl)) (report_plain names ledger)) refl

round_own : (i : ℕ) (r : Round) → Leaves (round_line i r) []
round_own i r =
    own (join (join (join (join (join (join (headed i) (word (codes " round ") refl)) (phase_plain r.phase)) gap) (mode_plain r.setting.mode)) gap) (number r.setting.started)) refl

position_own : (names : List Named) (i : ℕ) (p : Proposal) → Leaves (position_line names i p) []
position_own names i p = own (join (join (headed i) (word (codes " position ") refl)) (proposal_plain names p)) refl

set_own : (names : List Named) (i : ℕ) (ids : List TxId) → Leaves (set_line names i ids) []
set_own names i ids = own (join (join (headed i) (word (codes " set ") refl)) (ids_plain names ids)) refl

pending_own : (names : List Named) (i : ℕ) (ids : List TxId) → Leaves (pending_line names i ids) []
pending_own names i ids = own (join (join (headed i) (word (codes " pending ") refl)) (ids_plain names ids)) refl

proposal_own : (names : List Named) (i m : ℕ) (position : Option Proposal) → Leaves (proposal_line names i m position) []
proposal_own names i m position = own (join (join (join (join (headed i) (word (codes " proposal ") refl)) (number m)) gap) (position_plain names position)) refl

agreement_own : (i : ℕ) (r : Round) → Leaves (agreement_line i r) []
agreement_own i r =
    own (join (join (join (join (headed i) (word (codes " agreement ") refl)) (number (count_agreeing r.positions))) gap) (number (count r.positions))) refl

pub event_own : (names : List Named) (n : ℕ) (e : Event) → Leaves (event_line names n e) []
event_own names n e = own (join (join (join (join (join (word (codes "event ") refl) (number n)) gap) (number e.at)) gap) (what_plain names e.what)) refl

sent_own : (names : List Named) (k : ℕ) (f : Sent) → Leaves (sent_line names k f) []
sent_own names k f =
    own (join (join (join (join (join (join (join (word (codes "sent ") refl) (number k)) gap) (number f.from)) gap) (number f.to)) gap) (said_plain names (decoded_of f.bytes))) refl

pub sent_lines_own : (names : List Named) (k : ℕ) (frames : List Sent) → Leaves (sent_lines names k frames) []
sent_lines_own names k [] = nothing
sent_lines_own names k (f ∷ fs) = neither (sent_own names k f) (sent_lines_own names (k + 1) fs)

-- WHAT CHANGED

settings_own : (i : ℕ) (b : Noted) (n : Node) → Leaves (settings_changed i b n) []
settings_own i b n =
    neither (neither (neither (own_unless (b.time == n.time) (time_own i n.time)) (own_unless (b.kept == n.kept) (kept_own i n.kept))) (own_unless (is_same_number b.failed_save n.failed_save) (issuing_own i n.failed_save))) (own_unless (is_same_list b.list n.list) (list_own i n.list))

row_changed_own : (names : List Named) (i : ℕ) (b : List NotedMember) (n : Node) (m : ℕ) → Leaves (row_changed names i b n m) []
row_changed_own names i b n m = own_unless (is_same_row (row_before b m) (current_of n.rows m)) (row_own names i m (current_of n.rows m))

rows_own : (names : List Named) (i : ℕ) (b : List NotedMember) (n : Node) → Leaves (rows_changed names i b n) []
rows_own names i b n = none_of_each (λ (m : ℕ). row_changed names i b n m) (row_changed_own names i b n) n.list.members

ledgers_own : (names : List Named) (i known : ℕ) (n : Node) → Leaves (ledgers_changed names i known n) []
ledgers_own names i known n =
    neither (own_if (nat_lt (length n.ledgers.headers) known) (known_own i (length n.ledgers.headers))) (none_of_each (λ (place : ℕ). ledger_line names i n.ledgers.headers place) (ledger_own names i n.ledgers.headers) (up_from known (length n.ledgers.headers - known)))

reports_own : (names : List Named) (i : ℕ) (b : Noted) (n : Node) → Leaves (reports_changed names i b n) []
reports_own names i b n =
    neither (own_unless (is_same_last b.last n.last) (report_own names i n.last)) (own_unless (is_same_report b.preferred (preferred n)) (prefers_own names i (preferred n)))

part_own : (names : List Named) (i : ℕ) (b : NotedRound) (r : Round) → Leaves (round_changed names i b r) []
part_own names i b r =
    neither (neither (neither (own_unless (is_same_round b r) (round_own i r)) (own_unless (is_same_proposal b.position (our_position r)) (position_own names i (our_position r)))) (own_unless (are_same_ids b.own r.positions.own) (set_own names i r.positions.own))) (own_unless (are_same_ids b.pending r.pending) (pending_own names i r.pending))

proposal_changed_own : (names : List Named) (i : ℕ) (b : List NotedMember) (n : Node) (m : ℕ) → Leaves (proposal_changed names i b n m) []
proposal_changed_own names i b n m =
    own_unless (is_same_position (position_before b m) (position_of n.round.positions m)) (proposal_own names i m (position_of n.round.positions m))

proposals_own : (names : List Named) (i : ℕ) (b : List NotedMember) (n : Node) → Leaves (proposals_changed names i b n) []
proposals_own names i b n = none_of_each (λ (m : ℕ). proposal_changed names i b n m) (proposal_changed_own names i b n) n.list.members

agreeing_own : (i : ℕ) (b : NotedRound) (r : Round) → Leaves (agreement_changed i b r) []
agreeing_own i b r = own_unless (b.agreeing == count_agreeing r.positions && b.proposers == count r.positions) (agreement_own i r)

changed_own : (names : List Named) (i : ℕ) (b : Noted) (n : Node) → Leaves (changed_lines names i b n) []
changed_own names i b n =
    neither (neither (neither (neither (neither (neither (settings_own i b n) (rows_own names i b.members n)) (ledgers_own names i b.ledgers n)) (reports_own names i b n)) (part_own names i b.round n.round)) (proposals_own names i b.members n)) (agreeing_own i b.round n.round)

changed_in_own : (names : List Named) (i : ℕ) (b : Noted) (core : Option Core) → Leaves (changed_in names i b core) []
changed_in_own names i b None = nothing
changed_in_own names i b (Some core) = changed_own names i b core.node

pub changed_at_own : (names : List Named) (node : Option ℕ) (before : Option Noted) (w : World) → Leaves (changed_at names node before w) []
changed_at_own names None before w = nothing
changed_at_own names (Some i) None w = nothing
changed_at_own names (Some i) (Some b) w = changed_in_own names i b (core_in w i)

-- WHAT WAS OPENED

opened_own : (names : List Named) (i : ℕ) (n : Node) → Leaves (opened_lines names i n) []
opened_own names i n =
    neither (neither (neither
    (neither (neither (neither (time_own i n.time) (kept_own i n.kept)) (issuing_own i n.failed_save)) (list_own i n.list))
    (neither (report_own names i n.last) (prefers_own names i (preferred n))))
    (neither (neither (neither (round_own i n.round) (position_own names i (our_position n.round))) (set_own names i n.round.positions.own)) (pending_own names i n.round.pending)))
    (agreement_own i n.round)

opened_in_own : (names : List Named) (i : ℕ) (core : Option Core) → Leaves (opened_in names i core) []
opened_in_own names i None = nothing
opened_in_own names i (Some core) = opened_own names i core.node

pub all_opened_own : (names : List Named) (w : World) → Leaves (all_opened names w) []
all_opened_own names w = none_of_each (λ (i : ℕ). opened_in names i (core_in w i)) (λ i. opened_in_own names i (core_in w i)) w.numbers
