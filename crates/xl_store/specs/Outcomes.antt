-- How a save was answered, as the answer of the call tells that asked it.
-- Source: what the code of this crate relies on. No public clause cites this file.
use Rattle.std.specs.Prelude.{Result, Ok, Err, Some, None}
use Rattle.std.specs.declared.option.Option.{Option}
use Rattle.xl_core.specs.declared.timer_answer.TimerAnswer.{TimerAnswer}
use Rattle.xl_core.specs.declared.timer_answer.TimerAnswer.TheVariants as timer_answer
use Rattle.xl_core.specs.declared.timer_answer.Issued.{Issued}
use Rattle.xl_core.specs.declared.timer_answer.Issued.TheVariants as issued
use Rattle.xl_core.specs.declared.refusal.Refusal.{Refusal}
use Rattle.xl_core.specs.Node.{Save}
use Rattle.xl_core.specs.Issuing.Save.{Kept, Failed}
use Rattle.xl_core.specs.Replies as replies
use Rattle.xl_store.specs.declared.entry.Saved.{Saved}
use Rattle.xl_store.specs.declared.entry.Saved.TheVariants as saved

-- a failure, if there was one
abbrev pub failure_in : Save → Option Saved
failure_in Kept = None
failure_in (Failed count) = Some (saved.Failed count)

-- a refusal tells a failure, or that no save was asked
abbrev pub outcome_told : Refusal → Option Saved
outcome_told why = failure_in (replies.save_of why)

-- of a call that issues
abbrev pub outcome_in : {X : Type 0} → Result X Refusal → Option Saved
outcome_in (Ok done) = Some saved.Ok
outcome_in (Err why) = outcome_told why

-- of a ledger that was built and validated so
abbrev pub outcome_as : Issued → Option Saved
outcome_as issued.Full = Some saved.Ok
outcome_as issued.Partial = Some saved.Ok
outcome_as issued.Silent = None
outcome_as (issued.Refused why) = outcome_told why

-- of a timer
abbrev pub outcome_at : TimerAnswer → Option Saved
outcome_at (timer_answer.Built seq id moved_on how) = outcome_as how
outcome_at other = None
