-- What the code of a timer hands from one call to the next. Source: what the code of this crate relies on.
use Rattle.std.specs.Prelude.{◌≡◌, ℕ, ◌<◌, Bool, [], length, Result, Ok, Err, ⊤}
use Rattle.std.specs.Prelude.{Some, None}
use Rattle.std.specs.declared.option.Option.{Option}
use Rattle.xl_base.specs.Faults.{Rose}
use Rattle.xl_base.specs.declared.ids.LedgerId.{LedgerId}
use Rattle.xl_ledger.specs.declared.header.Header.{Header}
use Rattle.xl_ledger.specs.Headers.{header_id}
use Rattle.xl_core.specs.declared.timer_answer.TimerAnswer.{TimerAnswer}
use Rattle.xl_core.specs.declared.timer_answer.TimerAnswer.TheVariants as timer_answer
use Rattle.xl_core.specs.declared.timer_answer.Issued.{Issued}
use Rattle.xl_core.specs.declared.timer_answer.Issued.TheVariants as issued
use Rattle.xl_core.specs.declared.event.CoreEvent.TheVariants.{Timer}
use Rattle.xl_core.specs.declared.refusal.Refusal.{Refusal}
use Rattle.xl_core.specs.declared.refusal.Refusal.TheVariants.{KeepFault}
use Rattle.xl_core.specs.declared.report.OwnValidation.{OwnValidation}
use Rattle.xl_core.specs.declared.timer_part.TimerPart.{TimerPart}
use Rattle.xl_core.specs.declared.timer_part.TimerPart.TheVariants as timer_part
use Rattle.xl_core.specs.declared.timer_part.Built.{Built}
use Rattle.xl_core.specs.Answers.{Beats, Done}
use Rattle.xl_core.specs.Building.{knowing_of}
use Rattle.xl_core.specs.Node.{Node, Reply, Save, TimerOutcome, Quiet, Ending, reply_with, refusing_reply, validating_built, after_built, timer_reply, asks_of, is_kept}
use Rattle.xl_core.specs.Issuing.Save.{Kept}
use Rattle.xl_core.specs.Core.{Core, core_happens, after_reply}
use Rattle.xl_core.specs.Replies.{Answers, issue_reply, save_of}

-- what a timer came to, with the node that it left
abbrev pub outcome_by : TimerPart → Node → TimerOutcome
outcome_by (timer_part.Quiet told said) n = Quiet n told said
outcome_by (timer_part.Built b) n = Ending n b.said b.header b.ledger b.moved_on

-- a built ledger is known, and its id is that of its header
pub record IsBuilt (n : Node) (b : Built) : Type 0 where
  pub known : b.ledger < length n.ledgers.headers
  pub id : b.id ≡ header_id b.header

-- what a timer tells that built nothing
abbrev pub IsQuiet : TimerAnswer → Type 0
IsQuiet (timer_answer.Built seq id moved_on how) = ⊥
IsQuiet other = ⊤

abbrev pub IsTimerPart : Node → TimerPart → Type 0
IsTimerPart n (timer_part.Quiet told said) = IsQuiet told
IsTimerPart n (timer_part.Built b) = IsBuilt n b

-- a header is known to a node, at this place, that knew it before or had room for it
pub record IsKnown (before after : Node) (h : Header) (place : ℕ) : Type 0 where
  pub knowing : knowing_of before.ledgers h ≡ Some (record { ledgers = after.ledgers; place = place })
  pub rest : after ≡ record before { ledgers = after.ledgers }
  pub within : place < length after.ledgers.headers

-- what validating a built ledger comes to, and then starting a round on it; and the save that it asks
abbrev pub validating_reply : Node → Built → Save → Reply
validating_reply n b save = validating_built n b.header b.moved_on save

abbrev pub concluding_reply : Node → Built → Save → Reply
concluding_reply n b save = after_built n b.header b.ledger b.moved_on save

abbrev pub asks_in : Node → Built → Option ℕ
asks_in n b = asks_of (outcome_by (timer_part.Built b) n)

-- what comes of validating a built ledger, or of staying silent
abbrev pub validated_reply : Result (Option OwnValidation) Refusal → Node → Reply
validated_reply (Ok None) n = reply_with n Done []
validated_reply (Ok (Some own)) n = issue_reply (Ok own) n
validated_reply (Err why) n = refusing_reply n why

-- how the save was answered, as a timer tells it
abbrev pub save_as : Issued → Save
save_as (issued.Refused why) = save_of why
save_as other = Kept

abbrev pub save_at : TimerAnswer → Save
save_at (timer_answer.Built seq id moved_on how) = save_as how
save_at other = Kept

-- whether the save that a timer asked was answered with Ok, if it asked one
abbrev pub beat_was_kept : TimerAnswer → Bool
beat_was_kept told = is_kept (save_at told)

-- if the save failed, the count of faults rose, to the one that is told
abbrev pub CountsBeatFault : TimerAnswer → ℕ → ℕ → Type 0
CountsBeatFault told old new =
    (seq : ℕ) (id : LedgerId) (moved_on : Bool) (count : ℕ) →
    told ≡ timer_answer.Built seq id moved_on (issued.Refused (KeepFault count)) → Rose old new × (count ≡ new)

-- what a timer answers, with the core that it leaves
abbrev pub Beaten : Core → ℕ → TimerAnswer → Core → Type 0
Beaten core now told after = Answers (core_happens core (Timer now) (save_at told)) after (Beats told)

-- so once a ledger was built
abbrev pub Concludes : Core → Built → TimerAnswer → Core → Type 0
Concludes core b told after =
    Answers (after_reply core (timer_reply (outcome_by (timer_part.Built b) core.node) (save_at told))) after (Beats told)
