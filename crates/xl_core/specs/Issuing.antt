-- What a node issues, and the save that it asks before. Source: this profile, by which a sequence is saved before it is said.
use Rattle.std.specs.Prelude.{◌≡◌, ℕ, ◌<◌, ◌==◌, Bool, true, false, replicate, nat_lt, if◌then◌else◌}
use Rattle.std.specs.Prelude.{Some, None}
use Rattle.std.specs.declared.option.Option.{Option}
use Rattle.xl_base.specs.declared.ids.LedgerId.{LedgerId}
use Rattle.xl_wire.specs.declared.validation.Validation.{Validation}
use Rattle.xl_core.specs.declared.report.Report.{Report}
use Rattle.xl_core.specs.declared.refusal.Refusal.TheVariants.{NotAfter, IssuingOff, KeepFault}
use Rattle.xl_core.specs.Answers.{Done}
use Rattle.xl_core.specs.State.{Node, Reply, second_of, refusing_reply, reporting_reply, with_taken}

-- the node that has saved the validation's sequence: only then its own row takes it
abbrev pub with_saved : Node → ℕ → Validation → Node
with_saved n now v = with_taken (record n { kept = v.seq }) now n.me v

-- how the save that an event asks is answered: with Ok, or with Failed, the keeper's count of faults being this then
pub data Save : Type 0 where
  Kept : Save
  Failed : (count : ℕ) → Save

abbrev pub is_kept : Save → Bool
is_kept Kept = true
is_kept (Failed count) = false

-- nothing is asked after a save that failed
abbrev pub unless_failed : Option ℕ → ℕ → Option ℕ
unless_failed None seq = Some seq
unless_failed (Some failed) seq = None

-- the save that issuing a sequence asks
abbrev pub asks_for : Node → ℕ → Option ℕ
asks_for n seq = if nat_lt n.kept seq then unless_failed n.failed_save seq else None

-- after a save that failed the node issues nothing more
abbrev pub issued_reply : Node → ℕ → Save → Validation → Reply
issued_reply n now Kept v = reporting_reply (with_saved n now v) Done (Some v)
issued_reply n now (Failed count) v = refusing_reply (record n { failed_save = Some v.seq }) (KeepFault count)

abbrev pub issued_unless_off : Node → Option ℕ → Save → Validation → Reply
issued_unless_off n None save v = issued_reply n (second_of n) save v
issued_unless_off n (Some failed) save v = refusing_reply n (IssuingOff failed)

-- the ledger that was last reported, or no ledger's id
abbrev pub last_id : Option Report → LedgerId
last_id None = record { 0 = replicate 32 0 }
last_id (Some report) = report.id

-- what a validation tells of it: nothing in version 1
abbrev pub told_by : Node → Option LedgerId
told_by n = if n.speak == 2 then Some (last_id n.last.report) else None

abbrev pub own_validation : Node → ℕ → LedgerId → Bool → Validation
own_validation n seq id full =
    record { id = id; seq = seq; signed = second_of n; full = full; validated = told_by n }

-- a sequence above the kept one isn't issued, since the save of this one failed
abbrev pub IsOff : Node → ℕ → ℕ → Type 0
IsOff n seq failed = (n.kept < seq) × (n.failed_save ≡ Some failed)

-- it issues its own validation of a sequence that was saved
abbrev pub own_issued_reply : Node → ℕ → LedgerId → Bool → Reply
own_issued_reply n seq id full = issued_reply n (second_of n) Kept (own_validation n seq id full)

abbrev pub issuing_reply : Node → ℕ → LedgerId → Bool → Save → Reply
issuing_reply n seq id full save =
    if nat_lt n.kept seq then issued_unless_off n n.failed_save save (own_validation n seq id full)
    else refusing_reply n (NotAfter n.kept)
