-- A reply is one line.
use Rattle.std.proofs.Common.{◌≡◌, ℕ, Bool, true, false, List, [], ◌∷◌, ◌++◌, length, refl, decimal}
use Rattle.std.specs.List.{flat_map}
use Rattle.hex.specs.Hex.{encode_lower}
use Rattle.xl_ledger.specs.declared.refusal.AddRefusal.{AddRefusal}
use Rattle.xl_ledger.specs.declared.refusal.AddRefusal.TheVariants as header
use Rattle.xl_tags.specs.declared.refusal.TagRefusal.{TagRefusal}
use Rattle.xl_tags.specs.declared.refusal.TagRefusal.TheVariants.{NotForMe, Stranger, BadTag}
use Rattle.xl_wire.specs.declared.refusal.WireRefusal.{WireRefusal}
use Rattle.xl_wire.specs.declared.refusal.WireRefusal.TheVariants as wire
use Rattle.xl_core.specs.declared.timer_answer.TimerAnswer.{TimerAnswer}
use Rattle.xl_core.specs.declared.timer_answer.TimerAnswer.TheVariants as timer_answer
use Rattle.xl_core.specs.declared.timer_answer.Issued.{Issued}
use Rattle.xl_core.specs.declared.timer_answer.Issued.TheVariants as issued
use Rattle.xl_core.specs.declared.refusal.Refusal.{Refusal}
use Rattle.xl_core.specs.declared.refusal.Refusal.TheVariants.{Frame, Short, Extra, Tag, Header, Stale, Repeat, Conflict, OldSeq, Pending, PoolFull, WrongPrev, OldPosition, Left, StaleProposal, NotAfter, IssuingOff, KeepFault, NoKey}
use Rattle.xl_core.specs.declared.report.Report.{Report}
use Rattle.xl_core.specs.declared.taken.Taken.{Taken}
use Rattle.xl_core.specs.declared.taken.Taken.TheVariants as taken
use Rattle.xl_core.specs.Answers.{Answer, Refused, Took, Beats, Done, Gave, Handed, Told}
use Rattle.xl_core.specs.Queues.{stream_of}
use Rattle.xl_core.specs.Refusals.{code_of}
use Rattle.xl_audit.specs.Replies.{refusal_text, taken_text, issued_text, moved_text, beat_text, bytes_text, report_text, told_text, reply_text}
use Rattle.xl_audit.specs.Values.{space, frame_values, tag_values, header_values, values_text}
use Rattle.xl_audit.proofs.Spelling.{is_word, is_line, word_line, both_lines, lines_all, decimal_line, hex_word, hex_line}

-- two parts with a space between them
spaced : (a b : List ℕ) → is_line a ≡ true → is_line b ≡ true → is_line (a ++ space ++ b) ≡ true
spaced a b h k = both_lines (a ++ space) b (both_lines a space h refl) k

numbers_line : (a b : ℕ) → is_line (decimal a ++ space ++ decimal b) ≡ true
numbers_line a b = spaced (decimal a) (decimal b) (decimal_line a) (decimal_line b)

-- WHY IT IS REFUSED

frame_line : (why : WireRefusal) → is_line (frame_values why) ≡ true
frame_line (wire.Magic place) = decimal_line place
frame_line (wire.Version version) = decimal_line version
frame_line (wire.Kind kind) = decimal_line kind
frame_line (wire.Length kind long) = numbers_line kind long
frame_line (wire.Flags flags) = decimal_line flags
frame_line (wire.Order place) = decimal_line place
frame_line (wire.Count count) = decimal_line count

tag_line : (why : TagRefusal) → is_line (tag_values why) ≡ true
tag_line (NotForMe to) = decimal_line to
tag_line (Stranger from) = decimal_line from
tag_line (BadTag read computed) = spaced (encode_lower read) (encode_lower computed) (hex_line read) (hex_line computed)

header_line : (why : AddRefusal) → is_line (header_values why) ≡ true
header_line (header.Known id) = hex_line id.0
header_line (header.Orphan parent) = hex_line parent.0
header_line (header.WrongSeq parent own) = numbers_line parent own
header_line (header.Full limit) = decimal_line limit

values_line : (why : Refusal) → is_line (values_text why) ≡ true
values_line (Frame why) = frame_line why
values_line (Short lack) = decimal_line lack
values_line (Extra more) = decimal_line more
values_line (Tag why) = tag_line why
values_line (Header why) = header_line why
values_line (Stale now signed) = numbers_line now signed
values_line (Repeat id) = hex_line id.0
values_line (Conflict id) = hex_line id.0
values_line (OldSeq largest) = decimal_line largest
values_line (Pending tx) = hex_line tx.0
values_line (PoolFull most) = decimal_line most
values_line (WrongPrev ours) = hex_line ours.0
values_line (OldPosition kept) = decimal_line kept
values_line (Left member) = decimal_line member
values_line (StaleProposal now) = decimal_line now
values_line (NotAfter kept) = decimal_line kept
values_line (IssuingOff failed) = decimal_line failed
values_line (KeepFault count) = decimal_line count
values_line (NoKey member) = decimal_line member

refusal_line : (why : Refusal) → is_line (refusal_text why) ≡ true
refusal_line why = spaced (decimal (code_of why)) (values_text why) (decimal_line (code_of why)) (values_line why)

-- WHAT IS ANSWERED

taken_line : (what : Taken) → is_line (taken_text what) ≡ true
taken_line (taken.Header id) = hex_line id.0
taken_line (taken.Set id) = hex_line id.0
taken_line other = refl

issued_line : (how : Issued) → is_line (issued_text how) ≡ true
issued_line issued.Full = refl
issued_line issued.Partial = refl
issued_line issued.Silent = refl
issued_line (issued.Refused why) = refusal_line why

moved_line : (moved_on : Bool) → is_line (moved_text moved_on) ≡ true
unfolding moved_text
moved_line true = refl
moved_line false = refl

beat_line : (told : TimerAnswer) → is_line (beat_text told) ≡ true
beat_line timer_answer.Nothing = refl
beat_line timer_answer.Closed = refl
beat_line timer_answer.Updated = refl
beat_line (timer_answer.Switched seq id) = spaced (decimal seq) (encode_lower id.0) (decimal_line seq) (hex_line id.0)
beat_line (timer_answer.NoRoom limit) = decimal_line limit
beat_line (timer_answer.Built seq id moved_on how) =
    let ledger : List ℕ = decimal seq ++ space ++ encode_lower id.0 in
    both_lines (ledger ++ moved_text moved_on) (issued_text how)
    (both_lines ledger (moved_text moved_on) (spaced (decimal seq) (encode_lower id.0) (decimal_line seq) (hex_line id.0)) (moved_line moved_on))
    (issued_line how)

pub bytes_word : (bytes : List ℕ) → is_word (bytes_text bytes) ≡ true
bytes_word [] = refl
bytes_word (b ∷ bs) = hex_word (b ∷ bs)

report_line : (report : Report) → is_line (report_text report) ≡ true
report_line report = spaced (decimal report.seq) (encode_lower report.id.0) (decimal_line report.seq) (hex_line report.id.0)

told_line : (stopped : Bool) → is_line (told_text stopped) ≡ true
unfolding told_text
told_line true = refl
told_line false = refl

pub reply_line : (answer : Answer) → is_line (reply_text answer) ≡ true
reply_line (Refused why) = refusal_line why
reply_line (Took what) = taken_line what
reply_line (Beats told) = beat_line told
reply_line Done = refl
reply_line (Gave to frames) = word_line (bytes_text (stream_of frames)) (bytes_word (stream_of frames))
reply_line (Handed reports) =
    both_lines (decimal (length reports)) (flat_map report_text reports) (decimal_line (length reports)) (lines_all report_text report_line reports)
reply_line (Told stopped) = told_line stopped
