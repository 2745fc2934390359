-- The numbers of the refusals. Source: this project's own layout.
use Rattle.std.specs.Prelude.{ℕ}
use Rattle.xl_publish.specs.declared.line_refusal.LineRefusal.{LineRefusal}
use Rattle.xl_publish.specs.declared.line_refusal.LineRefusal.TheVariants.{Digits, Stranger, Roll}
use Rattle.xl_publish.specs.declared.refusal.RollRefusal.{RollRefusal}
use Rattle.xl_publish.specs.declared.refusal.RollRefusal.TheVariants.{Magic, Version, Count, Short, Long, Unknown, BadTag, Member, Dates}

-- the number of each refusal
abbrev pub code_of : RollRefusal → ℕ
code_of (Magic place) = 49
code_of (Version version) = 50
code_of (Count count) = 51
code_of (Short lack) = 52
code_of (Long more) = 53
code_of (Unknown publisher) = 54
code_of (BadTag read computed) = 55
code_of (Member place) = 56
code_of (Dates from until) = 57

-- the number of the refusal of a line
abbrev pub line_code_of : LineRefusal → ℕ
line_code_of Digits = 39
line_code_of (Roll refusal) = code_of refusal
line_code_of (Stranger member) = 48
