-- The numbers of the refusals. Source: this project's own layout.
use Rattle.std.specs.Prelude.{ℕ}
use Rattle.xl_tags.specs.declared.refusal.TagRefusal.{TagRefusal}
use Rattle.xl_tags.specs.declared.refusal.TagRefusal.TheVariants.{NotForMe, Stranger, BadTag}

-- the number of each refusal
abbrev pub code_of : TagRefusal → ℕ
code_of (NotForMe to) = 8
code_of (Stranger from) = 9
code_of (BadTag read computed) = 10
