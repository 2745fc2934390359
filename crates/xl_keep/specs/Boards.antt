-- What a board in a file shows. Source: this project's own.
use Rattle.std.specs.Prelude.{ℕ, List, Option, option_map}
use Rattle.xl_keep.specs.Files.{Places}

-- the text in place, if it is known
abbrev pub shown_in : Option Places → Option (Option (List ℕ))
shown_in places = option_map (λ (p : Places). p.stands) places
