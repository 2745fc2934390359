-- The reply of a core's call, as a journal writes it. Source: this project's own formats.
use Rattle.std.specs.Prelude.{ℕ, Bool, List, [], ◌∷◌, ◌++◌, length, decimal, codes, if◌then◌else◌}
use Rattle.std.specs.List.{flat_map}
use Rattle.hex.specs.Hex.{encode_lower}
use Rattle.xl_core.specs.declared.timer_answer.TimerAnswer.{TimerAnswer}
use Rattle.xl_core.specs.declared.timer_answer.TimerAnswer.TheVariants as timer_answer
use Rattle.xl_core.specs.declared.timer_answer.Issued.{Issued}
use Rattle.xl_core.specs.declared.timer_answer.Issued.TheVariants as issued
use Rattle.xl_core.specs.declared.refusal.Refusal.{Refusal}
use Rattle.xl_core.specs.declared.report.Report.{Report}
use Rattle.xl_core.specs.declared.taken.Taken.{Taken}
use Rattle.xl_core.specs.declared.taken.Taken.TheVariants as taken
use Rattle.xl_core.specs.Answers.{Answer, Refused, Took, Beats, Done, Gave, Handed, Told}
use Rattle.xl_core.specs.Queues.{stream_of}
use Rattle.xl_core.specs.Refusals.{code_of}
use Rattle.xl_audit.specs.Values.{space, values_text}

abbrev pub refusal_text : Refusal → List ℕ
refusal_text why = codes "refused " ++ decimal (code_of why) ++ space ++ values_text why

-- what was taken of a frame
abbrev pub taken_text : Taken → List ℕ
taken_text taken.Validation = codes "vote"
taken_text (taken.Header id) = codes "header " ++ encode_lower id.0
taken_text taken.Position = codes "position"
taken_text taken.Later = codes "later"
taken_text taken.Gone = codes "gone"
taken_text (taken.Set id) = codes "set " ++ encode_lower id.0
taken_text taken.Pending = codes "pending"

-- how a built ledger was validated
abbrev pub issued_text : Issued → List ℕ
issued_text issued.Full = codes "full"
issued_text issued.Partial = codes "partial"
issued_text issued.Silent = codes "silent"
issued_text (issued.Refused why) = refusal_text why

-- whether the members moved on without the node
unfoldable pub moved_text : Bool → List ℕ
moved_text moved_on = if moved_on then codes " moved " else codes " agreed "

-- what came of a timer
abbrev pub beat_text : TimerAnswer → List ℕ
beat_text timer_answer.Nothing = codes "nothing"
beat_text timer_answer.Closed = codes "closed"
beat_text timer_answer.Updated = codes "updated"
beat_text (timer_answer.Switched seq id) = codes "switched " ++ decimal seq ++ space ++ encode_lower id.0
beat_text (timer_answer.NoRoom limit) = codes "noroom " ++ decimal limit
beat_text (timer_answer.Built seq id moved_on how) =
    codes "built " ++ decimal seq ++ space ++ encode_lower id.0 ++ moved_text moved_on ++ issued_text how

-- bytes as lower-case digits, or `-` for none
abbrev pub bytes_text : List ℕ → List ℕ
bytes_text [] = codes "-"
bytes_text (b ∷ bs) = encode_lower (b ∷ bs)

abbrev pub report_text : Report → List ℕ
report_text report = space ++ decimal report.seq ++ space ++ encode_lower report.id.0

-- whether it was told to stop
unfoldable pub told_text : Bool → List ℕ
told_text stopped = if stopped then codes "yes" else codes "no"

-- what a core's call answers
abbrev pub reply_text : Answer → List ℕ
reply_text (Refused why) = refusal_text why
reply_text (Took what) = taken_text what
reply_text (Beats told) = beat_text told
reply_text Done = codes "ok"
reply_text (Gave to frames) = bytes_text (stream_of frames)
reply_text (Handed reports) = decimal (length reports) ++ flat_map report_text reports
reply_text (Told stopped) = told_text stopped
