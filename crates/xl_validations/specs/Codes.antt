-- The numbers of the refusals. Source: this project's own formats.
use Rattle.std.specs.Prelude.{ℕ}
use Rattle.xl_validations.specs.declared.refusal.ValRefusal.{ValRefusal}
use Rattle.xl_validations.specs.declared.refusal.ValRefusal.TheVariants.{Stale, Repeat, Conflict, OldSeq}

-- the number of each refusal
abbrev pub code_of : ValRefusal → ℕ
code_of (Stale now signed) = 20
code_of (Repeat id) = 21
code_of (Conflict id) = 22
code_of (OldSeq largest) = 23
