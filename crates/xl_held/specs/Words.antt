-- The words of what a node holds. Source: this project's own formats.
use Rattle.std.specs.Prelude.{ℕ, Bool, List, [], ◌++◌, decimal, codes, Option, Some, None, if◌then◌else◌}
use Rattle.xl_core.specs.declared.last.LastReport.{LastReport}
use Rattle.xl_core.specs.declared.report.Report.{Report}
use Rattle.xl_rounds.specs.declared.phase.Mode.{Mode}
use Rattle.xl_rounds.specs.declared.phase.Mode.TheVariants.{Proposing, Observing, SwitchedLedger}
use Rattle.xl_rounds.specs.declared.phase.Phase.{Phase}
use Rattle.xl_rounds.specs.declared.phase.Phase.TheVariants.{Open, Establish, Accepted}
use Rattle.xl_running.specs.Texts.{id_text, space}
use Rattle.xl_sched.specs.declared.named.Named.{Named}
use Rattle.xl_told.specs.Words.{proposal_text, validation_text}
use Rattle.xl_wire.specs.declared.proposal.Proposal.{Proposal}
use Rattle.xl_wire.specs.declared.validation.Validation.{Validation}

-- whether it issues, or else the sequence whose save failed
abbrev pub issuing_text : Option ℕ → List ℕ
issuing_text None = codes "on"
issuing_text (Some failed) = codes "off " ++ decimal failed

-- a ledger, if there is one
abbrev pub report_text : List Named → Option Report → List ℕ
report_text names None = codes "none"
report_text names (Some r) = decimal r.seq ++ space ++ id_text names r.id

-- whether the list was set after the last report
abbrev pub relisted_text : Bool → List ℕ
relisted_text relisted = if relisted then codes " relisted" else []

abbrev pub last_text : List Named → LastReport → List ℕ
last_text names last = report_text names last.report ++ relisted_text last.relisted

abbrev pub row_text : List Named → Option Validation → List ℕ
row_text names None = codes "none"
row_text names (Some v) = validation_text names v

abbrev pub position_text : List Named → Option Proposal → List ℕ
position_text names None = codes "none"
position_text names (Some p) = proposal_text names p

abbrev pub phase_text : Phase → List ℕ
phase_text Open = codes "open"
phase_text Establish = codes "establish"
phase_text Accepted = codes "accepted"

abbrev pub mode_text : Mode → List ℕ
mode_text Proposing = codes "proposing"
mode_text Observing = codes "observing"
mode_text SwitchedLedger = codes "switched"
