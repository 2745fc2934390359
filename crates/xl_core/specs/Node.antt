-- What may happen at a node, and what comes of it. Its state and the parts of an event stand in the files that this one
-- passes on.
-- Source: Chase and MacBrough, "Analysis of the XRP Ledger Consensus Protocol" (2018), and rippled's Consensus and
-- Validations.
use Rattle.std.specs.Prelude.{ℕ, Bool, List, option_map}
use Rattle.std.specs.Prelude.{None}
use Rattle.std.specs.declared.option.Option.{Option}
use Rattle.xl_base.specs.declared.ids.LedgerId.{LedgerId}
use Rattle.xl_base.specs.declared.ids.TxId.{TxId}
use Rattle.xl_lists.specs.Lists.{TrustedList}
use Rattle.xl_validations.specs.Votes.{votes_of}
use Rattle.xl_ledger.specs.declared.header.Header.{Header}
use Rattle.xl_ledger.specs.Chains.{seq_at, id_at}
use Rattle.xl_ledger.specs.Votes.{preferred_of}
use Rattle.xl_core.specs.declared.report.Report.{Report}
pub use Rattle.xl_core.specs.State.{Node, Reply, opened_node, settings_of, second_of, at_moment, arises_in, arises, report_of, report_if, arisen_in, new_report, reply_with, refusing_reply, reply_unless, items_of, reporting_reply, take, with_taken, with_own}
pub use Rattle.xl_core.specs.Taking.{refusal_at, with_tx, tx_refusal, proposal_answer, taken_as, placed_as, speech_refusal, taken_reply, speech_reply, frame_refusal, bytes_reply, submitted_reply, key_refusal, with_list, relisted_reply, HearsOthers}
pub use Rattle.xl_core.specs.Issuing.{with_saved, Save, is_kept, unless_failed, asks_for, issued_reply, issued_unless_off, last_id, told_by, own_validation, IsOff, own_issued_reply, issuing_reply}
pub use Rattle.xl_core.specs.Timer.{TimerOutcome, Quiet, Ending, chosen, with_new_round, switch_outcome, seen_of, next_header, with_accepted, built_outcome, kind_outcome, heartbeat_outcome, timer_outcome, validates, validating_built, after_built, built_reply, timer_reply, asks_of}

-- What may happen at a node, each at a moment in milliseconds.
pub data Event : Type 0 where
  -- it is asked to issue a validation
  Issue : (now seq : ℕ) (id : LedgerId) (full : Bool) → Event
  -- bytes come, whatever they are
  Frame : (now : ℕ) (bytes : List ℕ) → Event
  -- it is time to look at the votes, and to let the round go on
  Timer : (now : ℕ) → Event
  -- a transaction is handed in
  Submit : (now : ℕ) (tx : TxId) → Event
  -- another list is to be in force
  Relist : (now : ℕ) (list : TrustedList) → Event

-- the save that an event asks
abbrev pub asks : Node → Event → Option ℕ
asks n (Issue now seq id full) = asks_for n seq
asks n (Timer now) = asks_of (timer_outcome (at_moment now n))
asks n other = None

-- what came of an event, whose save was answered so: first the time is set, and rows expire
abbrev pub happens : Node → Event → Save → Reply
happens n (Issue now seq id full) save = issuing_reply (at_moment now n) seq id full save
happens n (Frame now bytes) save = bytes_reply (at_moment now n) bytes
happens n (Timer now) save = timer_reply (timer_outcome (at_moment now n)) save
happens n (Submit now tx) save = submitted_reply (at_moment now n) tx
happens n (Relist now list) save = relisted_reply (at_moment now n) list

abbrev pub report_at : List Header → ℕ → Report
report_at ledgers ledger = record { seq = seq_at ledgers ledger; id = id_at ledgers ledger }

-- the ledger that the votes prefer, if there is a vote. The largest sequence issued is the kept number
abbrev pub preferred : Node → Option Report
preferred n =
    let ledgers = n.ledgers.headers in
    option_map (report_at ledgers) (preferred_of ledgers (votes_of ledgers n.rows) n.kept)
