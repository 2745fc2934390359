-- Lines that every command writes that reads schedules. Source: this project's own formats.
use Rattle.std.specs.Prelude.{ℕ, List, [], ◌∷◌, codes, Option, Some, None}
use Rattle.hex.specs.Hex.{encode_lower}
use Rattle.xl_base.specs.declared.ids.LedgerId.{LedgerId}
pub use Rattle.xl_sched.specs.BadLines.{bad_line}
use Rattle.xl_sched.specs.declared.named.Named.{Named}
use Rattle.xl_sched.specs.Names.{name_of}
use Rattle.xl_sched.specs.Tokens.{shown_token}

abbrev pub space : List ℕ
space = codes " "

abbrev pub newline : List ℕ
newline = 10 ∷ []

-- a name is printed as any token is, and an id without one as 64 lower-case digits
abbrev pub named_text : Option (List ℕ) → LedgerId → List ℕ
named_text None id = encode_lower id.0
named_text (Some name) id = shown_token name

-- an id is printed by the first declared name that stands for it
abbrev pub id_text : List Named → LedgerId → List ℕ
id_text names id = named_text (name_of names id.0) id
