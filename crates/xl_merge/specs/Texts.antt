-- The lines that `xl merge` writes. Source: this project's own formats.
use Rattle.std.specs.Prelude.{ℕ, List, [], ◌∷◌, ◌++◌, decimal, codes, Option, Some, None, Result, Ok, Err}
use Rattle.std.specs.List.{flat_map}
use Rattle.hex.specs.Hex.{encode_lower}
use Rattle.xl_lists.specs.Lists.{TrustedList}
use Rattle.xl_publish.specs.declared.publishers.Took.{Took}
use Rattle.xl_publish.specs.declared.publishers.Took.TheVariants.{New, Kept}
use Rattle.xl_publish.specs.declared.refusal.RollRefusal.{RollRefusal}
use Rattle.xl_publish.specs.declared.refusal.RollRefusal.TheVariants as roll
use Rattle.xl_publish.specs.Codes.{code_of as roll_code_of}

abbrev pub space : List ℕ
space = codes " "

abbrev pub newline : List ℕ
newline = 10 ∷ []

-- the values of why a roll is refused, parted by spaces; tags are 64 lower-case digits
abbrev pub values_text : RollRefusal → List ℕ
values_text (roll.Magic place) = decimal place
values_text (roll.Version version) = decimal version
values_text (roll.Count count) = decimal count
values_text (roll.Short lack) = decimal lack
values_text (roll.Long more) = decimal more
values_text (roll.Unknown publisher) = decimal publisher
values_text (roll.BadTag read computed) = encode_lower read ++ space ++ encode_lower computed
values_text (roll.Member place) = decimal place
values_text (roll.Dates from until) = decimal from ++ space ++ decimal until

-- what is written of a roll that line n hands in: nothing if it is kept now
abbrev pub roll_text : ℕ → Result Took RollRefusal → List ℕ
roll_text n (Ok New) = []
roll_text n (Ok (Kept seq)) = codes "kept " ++ decimal n ++ space ++ decimal seq ++ newline
roll_text n (Err refusal) =
    codes "refused " ++ decimal n ++ space ++ decimal (roll_code_of refusal) ++ space ++ values_text refusal ++ newline

-- numbers after the first, each after a comma
abbrev pub later_members : List ℕ → List ℕ
later_members members = flat_map (λ m. codes "," ++ decimal m) members

abbrev pub members_text : List ℕ → List ℕ
members_text [] = []
members_text (m ∷ ms) = decimal m ++ later_members ms

-- the list in force
abbrev pub list_text : Option TrustedList → List ℕ
list_text None = codes "list none" ++ newline
list_text (Some list) = codes "list " ++ decimal list.quorum ++ space ++ members_text list.members ++ newline
