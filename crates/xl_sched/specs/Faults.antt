-- A refusal before its token is copied. Source: this project's schedule language.
use Rattle.std.specs.Prelude.{ℕ, List, decimal}
use Rattle.xl_sched.specs.declared.fault.Cause.{Cause}
use Rattle.xl_sched.specs.declared.fault.Cause.TheVariants as cause
use Rattle.xl_sched.specs.declared.fault.Token.{Token}
use Rattle.xl_sched.specs.declared.fault.Token.TheVariants as token
use Rattle.xl_sched.specs.declared.refusal.SchedRefusal.{SchedRefusal}
use Rattle.xl_sched.specs.declared.refusal.SchedRefusal.TheVariants as refusal

-- the bytes of a token, which may be the text of a number
abbrev pub bytes_of : Token → List ℕ
bytes_of (token.Text text) = text.now
bytes_of (token.Decimal n) = decimal n

-- the refusal of this cause, with this token
abbrev pub refusal_of : Cause → List ℕ → SchedRefusal
refusal_of cause.Header bytes = refusal.Header bytes
refusal_of cause.LongLine bytes = refusal.LongLine bytes
refusal_of cause.Limit bytes = refusal.Limit bytes
refusal_of cause.Word bytes = refusal.Word bytes
refusal_of cause.Count bytes = refusal.Count bytes
refusal_of cause.Number bytes = refusal.Number bytes
refusal_of cause.Id bytes = refusal.Id bytes
refusal_of cause.Choice bytes = refusal.Choice bytes
refusal_of cause.Twice bytes = refusal.Twice bytes
refusal_of cause.Late bytes = refusal.Late bytes
refusal_of cause.List bytes = refusal.List bytes
refusal_of cause.Absent bytes = refusal.Absent bytes
refusal_of cause.OutOfMemory bytes = refusal.OutOfMemory
