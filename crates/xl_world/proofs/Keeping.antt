-- What a node keeps over its events.
use Rattle.std.proofs.Common.{◌≡◌, ℕ, Bool, List, [], refl, ap, ◌∙◌, Option, Some, None}
use Rattle.std.specs.Prelude.{nat_lt}
use Rattle.std.proofs.lemmas.Bool.{cond_both}
use Rattle.xl_base.specs.declared.ids.LedgerId.{LedgerId}
use Rattle.xl_ledger.specs.declared.header.Header.{Header}
use Rattle.xl_ledger.specs.Headers.{header_id}
use Rattle.xl_rounds.specs.Rounds.{is_proposing}
use Rattle.xl_core.specs.Answers.{Done}
use Rattle.xl_core.proofs.Timing.{timing_by, submit_either, relist_either}
use Rattle.xl_core.specs.Core.{Core, core_happens}
use Rattle.xl_core.specs.declared.event.CoreEvent.{CoreEvent}
use Rattle.xl_core.proofs.Beside.{node_or_beside}
use Rattle.xl_core.specs.declared.refusal.Refusal.TheVariants.{NotAfter}
use Rattle.xl_core.specs.declared.hearing.Speech.{Speech}
use Rattle.xl_core.specs.declared.hearing.Speech.TheVariants as speech
use Rattle.xl_core.proofs.Frames.{hearing_either}
use Rattle.xl_core.specs.Node.{Node, Event, Issue, Frame, Timer, Submit, Relist, Reply, asks, Save, at_moment, second_of, own_validation, issued_unless_off, issued_reply, issuing_reply, reply_with, timer_reply, timer_outcome, validates, validating_built, taken_reply, bytes_reply, refusing_reply, happens}
use Rattle.xl_wire.specs.declared.validation.Validation.{Validation}
use Rattle.xl_core.specs.Issuing.Save.{Kept, Failed}

-- a node keeps its number, its keys, its room, whether it validates, the version of its validations, and its list
abbrev pub KeepsList : Node → Reply → Type 0
KeepsList n r = (r.node.me ≡ n.me) × (r.node.keys ≡ n.keys) × (r.node.ledgers.limit ≡ n.ledgers.limit) × (r.node.validating ≡ n.validating) × (r.node.speak ≡ n.speak) × (r.node.list ≡ n.list)

issues_keep : (n : Node) (now : ℕ) (save : Save) (v : Validation) → KeepsList n (issued_reply n now save v)
issues_keep n now Kept v = (refl, refl, refl, refl, refl, refl)
issues_keep n now (Failed count) v = (refl, refl, refl, refl, refl, refl)

unless_keep : (n : Node) (off : Option ℕ) (save : Save) (v : Validation) → KeepsList n (issued_unless_off n off save v)
unless_keep n None save v = issues_keep n (second_of n) save v
unless_keep n (Some failed) save v = (refl, refl, refl, refl, refl, refl)

taking_keeps : (n : Node) (from : ℕ) (what : Speech) → KeepsList n (taken_reply n from what)
taking_keeps n from (speech.Validation v) = (refl, refl, refl, refl, refl, refl)
taking_keeps n from other = (refl, refl, refl, refl, refl, refl)

hearing_keeps : (n : Node) (bytes : List ℕ) → KeepsList n (bytes_reply n bytes)
hearing_keeps n bytes = hearing_either (KeepsList n) n bytes (λ _. (refl, refl, refl, refl, refl, refl)) (λ said _. taking_keeps n said.from said.what)

pub issuing_keeps : (n : Node) (seq : ℕ) (id : LedgerId) (full : Bool) (save : Save) → KeepsList n (issuing_reply n seq id full save)
issuing_keeps n seq id full save =
    cond_both (nat_lt n.kept seq) (issued_unless_off n n.failed_save save (own_validation n seq id full)) (refusing_reply n (NotAfter n.kept)) (KeepsList n) (λ _. unless_keep n n.failed_save save (own_validation n seq id full)) (λ _. (refl, refl, refl, refl, refl, refl))

validating_keeps : (n : Node) (h : Header) (moved_on : Bool) (save : Save) → KeepsList n (validating_built n h moved_on save)
validating_keeps n h moved_on save =
    cond_both (validates n moved_on) (issuing_reply n h.seq (header_id h) (is_proposing n.round.setting.mode) save) (reply_with n Done []) (KeepsList n)
    (λ _. issuing_keeps n h.seq (header_id h) (is_proposing n.round.setting.mode) save) (λ _. (refl, refl, refl, refl, refl, refl))

pub timer_keeps : (n : Node) (save : Save) → KeepsList n (timer_reply (timer_outcome n) save)
timer_keeps n save =
    timing_by (λ t. KeepsList n (timer_reply t save)) n (λ r beat said. (refl, refl, refl, refl, refl, refl))
    (λ ledgers r said h place moved_on grows.
    let keeps = validating_keeps (record n { ledgers = ledgers; round = r }) h moved_on save in (keeps.0, keeps.1, keeps.2 ∙ grows.limit, keeps.3, keeps.4, keeps.5))

pub frame_keeps : (n : Node) (now : ℕ) (bytes : List ℕ) (save : Save) → KeepsList n (happens n (Frame now bytes) save)
frame_keeps n now bytes save = hearing_keeps (at_moment now n) bytes

-- its number and its keys stay over every event
pub happens_keeps : (n : Node) (e : Event) (save : Save) → let r : Reply = happens n e save in (r.node.me ≡ n.me) × (r.node.keys ≡ n.keys)
happens_keeps n (Issue now seq id full) save = let keeps = issuing_keeps (at_moment now n) seq id full save in (keeps.0, keeps.1)
happens_keeps n (Timer now) save = let keeps = timer_keeps (at_moment now n) save in (keeps.0, keeps.1)
happens_keeps n (Submit now tx) save = submit_either (λ r. (r.node.me ≡ n.me) × (r.node.keys ≡ n.keys)) (at_moment now n) tx (λ _. (refl, refl)) (refl, refl)
happens_keeps n (Frame now bytes) save = let keeps = frame_keeps n now bytes save in (keeps.0, keeps.1)
happens_keeps n (Relist now list) save = relist_either (λ r. (r.node.me ≡ n.me) × (r.node.keys ≡ n.keys)) (at_moment now n) list (λ _. (refl, refl)) (λ _. (refl, refl))

-- and over what asks a save all does
pub asking_keeps : (n : Node) (e : Event) (save : Save) (s : ℕ) → asks n e ≡ Some s → KeepsList n (happens n e save)
asking_keeps n (Issue now seq id full) save s asked = issuing_keeps (at_moment now n) seq id full save
asking_keeps n (Timer now) save s asked = timer_keeps (at_moment now n) save
asking_keeps n other save s asked = cc

-- so do they at a core
pub core_keeps : (core : Core) (e : CoreEvent) (save : Save) → let n = (core_happens core e save).core.node in (n.me ≡ core.node.me) × (n.keys ≡ core.node.keys)
core_keeps core e save =
    node_or_beside (λ r. (r.core.node.me ≡ core.node.me) × (r.core.node.keys ≡ core.node.keys)) core e save (λ n _. happens_keeps core.node n save)
    (λ after a same. (ap (λ (n : Node). n.me) same, ap (λ (n : Node). n.keys) same))
