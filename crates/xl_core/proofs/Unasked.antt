-- What asks no save comes to the same however one were answered.
use Rattle.std.proofs.Common.{◌≡◌, ℕ, Bool, true, false, [], refl, ap, Option, Some, None}
use Rattle.std.specs.Prelude.{if◌then◌else◌, nat_lt}
use Rattle.xl_base.specs.declared.ids.LedgerId.{LedgerId}
use Rattle.xl_core.specs.Core.{Core, core_asks, core_happens, after_reply}
use Rattle.xl_core.specs.Building.{said_items, usual_mode}
use Rattle.xl_core.specs.declared.refusal.Refusal.TheVariants.{NotAfter}
use Rattle.xl_ledger.specs.declared.header.Header.{Header}
use Rattle.xl_ledger.specs.Headers.{header_id}
use Rattle.xl_rounds.specs.Rounds.{is_proposing}
use Rattle.xl_core.specs.Answers.{Done}
use Rattle.xl_core.specs.Node.{Node, Reply, Save, TimerOutcome, asks_for, asks_of, at_moment, timer_reply, built_reply, issued_unless_off, issuing_reply, own_validation, refusing_reply, reply_with, with_new_round, timer_outcome, unless_failed, validates, validating_built}
use Rattle.xl_core.specs.Timer.TimerOutcome.{Quiet, Ending}
use Rattle.xl_core.specs.declared.event.CoreEvent.{CoreEvent}
use Rattle.xl_core.specs.declared.event.CoreEvent.TheVariants.{Issue, Timer}

never_some : (s : ℕ) → (let o : Option ℕ = Some s in o) ≡ None → ⊥
never_some s e = cc

-- what would be issued is refused alike, however a save were answered
issuing_unasked : (n : Node) (seq : ℕ) (id : LedgerId) (full : Bool) (s t : Save) → asks_for n seq ≡ None → issuing_reply n seq id full s ≡ issuing_reply n seq id full t
issuing_unasked n seq id full s t = by (nat_lt n.kept seq) n.failed_save
  where
    by : (above : Bool) (failed : Option ℕ) → (if above then unless_failed failed seq else None) ≡ None →
        (if above then issued_unless_off n failed s (own_validation n seq id full) else refusing_reply n (NotAfter n.kept))
        ≡ (if above then issued_unless_off n failed t (own_validation n seq id full) else refusing_reply n (NotAfter n.kept))
    by true None asks = absurd (never_some seq asks)
    by true (Some f) asks = refl
    by false failed asks = refl

validating_unasked : (n : Node) (h : Header) (moved_on : Bool) (s t : Save) → (if validates n moved_on then asks_for n h.seq else None) ≡ None → validating_built n h moved_on s ≡ validating_built n h moved_on t
validating_unasked n h moved_on s t = by (validates n moved_on)
  where
    by : (speaks : Bool) → (if speaks then asks_for n h.seq else None) ≡ None →
        (if speaks then issuing_reply n h.seq (header_id h) (is_proposing n.round.setting.mode) s else reply_with n Done [])
        ≡ (if speaks then issuing_reply n h.seq (header_id h) (is_proposing n.round.setting.mode) t else reply_with n Done [])
    by true asks = issuing_unasked n h.seq (header_id h) (is_proposing n.round.setting.mode) s t asks
    by false asks = refl

completed_unasked : (x : TimerOutcome) (s t : Save) → asks_of x ≡ None → timer_reply x s ≡ timer_reply x t
completed_unasked (Quiet n beat said) s t asks = refl
completed_unasked (Ending n said h place moved_on) s t asks =
    ap (λ (done : Reply). built_reply (said_items said) h moved_on (record done { node = with_new_round done.node place (usual_mode n.validating) })) (validating_unasked n h moved_on s t asks)

-- an event that asks no save does the same however one were answered: so a cut may try it under a disk that fails
pub unasked_alike : (core : Core) (e : CoreEvent) (s t : Save) → core_asks core e ≡ None → core_happens core e s ≡ core_happens core e t
unasked_alike core (Issue now seq id full) s t asks = ap (after_reply core) (issuing_unasked (at_moment now core.node) seq id full s t asks)
unasked_alike core (Timer now) s t asks = ap (after_reply core) (completed_unasked (timer_outcome (at_moment now core.node)) s t asks)
unasked_alike core other s t asks = refl
