-- What is the same as before. Source: this project's own.
use Rattle.std.specs.Prelude.{ℕ, ◌==◌, ◌&&◌, Bool, true, false, not, List, Option, Some, None, if◌then◌else◌}
use Rattle.xl_base.specs.declared.ids.LedgerId.{LedgerId}
use Rattle.xl_base.specs.declared.ids.TxId.{TxId}
use Rattle.std.specs.Cmp.Lexicographic.{pointwise}
use Rattle.std.specs.Str.{bytes_eq}
use Rattle.xl_core.specs.declared.last.LastReport.{LastReport}
use Rattle.xl_core.specs.declared.report.Report.{Report}
use Rattle.xl_lists.specs.Lists.{TrustedList}
use Rattle.xl_rounds.specs.declared.phase.Mode.{Mode}
use Rattle.xl_rounds.specs.declared.phase.Mode.TheVariants.{Proposing, Observing, SwitchedLedger}
use Rattle.xl_rounds.specs.declared.phase.Phase.{Phase}
use Rattle.xl_rounds.specs.declared.phase.Phase.TheVariants.{Open, Establish, Accepted}
use Rattle.xl_wire.specs.declared.proposal.Proposal.{Proposal}
use Rattle.xl_wire.specs.declared.validation.Validation.{Validation}

abbrev pub is_same_bool : Bool → Bool → Bool
is_same_bool a b = if a then b else not b

abbrev pub is_same_id : Option LedgerId → Option LedgerId → Bool
is_same_id None None = true
is_same_id None (Some b) = false
is_same_id (Some a) None = false
is_same_id (Some a) (Some b) = bytes_eq a.0 b.0

abbrev pub is_same_number : Option ℕ → Option ℕ → Bool
is_same_number None None = true
is_same_number None (Some b) = false
is_same_number (Some a) None = false
is_same_number (Some a) (Some b) = a == b

abbrev pub is_same_report : Option Report → Option Report → Bool
is_same_report None None = true
is_same_report None (Some b) = false
is_same_report (Some a) None = false
is_same_report (Some a) (Some b) = a.seq == b.seq && bytes_eq a.id.0 b.id.0

abbrev pub is_same_last : LastReport → LastReport → Bool
is_same_last a b = is_same_bool a.relisted b.relisted && is_same_report a.report b.report

abbrev pub is_same_validation : Validation → Validation → Bool
is_same_validation a b =
    a.seq == b.seq && a.signed == b.signed && is_same_bool a.full b.full && bytes_eq a.id.0 b.id.0
    && is_same_id a.validated b.validated

abbrev pub is_same_row : Option Validation → Option Validation → Bool
is_same_row None None = true
is_same_row None (Some b) = false
is_same_row (Some a) None = false
is_same_row (Some a) (Some b) = is_same_validation a b

abbrev pub is_same_proposal : Proposal → Proposal → Bool
is_same_proposal a b =
    a.pseq == b.pseq && a.close == b.close && a.time == b.time && bytes_eq a.prev.0 b.prev.0 && bytes_eq a.set.0 b.set.0

abbrev pub is_same_position : Option Proposal → Option Proposal → Bool
is_same_position None None = true
is_same_position None (Some b) = false
is_same_position (Some a) None = false
is_same_position (Some a) (Some b) = is_same_proposal a b

abbrev pub is_same_phase : Phase → Phase → Bool
is_same_phase Open Open = true
is_same_phase Establish Establish = true
is_same_phase Accepted Accepted = true
is_same_phase a b = false

abbrev pub is_same_mode : Mode → Mode → Bool
is_same_mode Proposing Proposing = true
is_same_mode Observing Observing = true
is_same_mode SwitchedLedger SwitchedLedger = true
is_same_mode a b = false

abbrev pub are_same_members : List ℕ → List ℕ → Bool
are_same_members a b = pointwise (λ x y. x == y) a b

abbrev pub is_same_list : TrustedList → TrustedList → Bool
is_same_list a b = a.quorum == b.quorum && are_same_members a.members b.members

abbrev pub are_same_ids : List TxId → List TxId → Bool
are_same_ids a b = pointwise (λ (x y : TxId). bytes_eq x.0 y.0) a b
