-- The numbers of the refusals. Source: this project's own layout.
use Rattle.std.specs.Prelude.{ℕ}
use Rattle.xl_ledger.specs.declared.refusal.AddRefusal.{AddRefusal}
use Rattle.xl_ledger.specs.declared.refusal.AddRefusal.TheVariants.{Known, Orphan, WrongSeq, Full}

-- the number of each refusal
abbrev pub code_of : AddRefusal → ℕ
code_of (Known id) = 16
code_of (Orphan parent) = 17
code_of (WrongSeq parent own) = 18
code_of (Full limit) = 19
