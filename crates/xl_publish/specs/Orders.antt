-- The order of a publisher's rolls. Source: this project's own rule.
use Rattle.std.specs.Prelude.{ℕ, ◌==◌, nat_lt, Bool, List, [], ◌∷◌, Option, Some, None, if◌then◌else◌}
use Rattle.xl_base.specs.Sets.{comes_before}
use Rattle.xl_publish.specs.Fields.{seq_in}

-- whether a roll is below another: by its sequence, and then by its bytes
abbrev pub is_below : List ℕ → List ℕ → Bool
is_below a b = if seq_in a == seq_in b then comes_before a b else nat_lt (seq_in a) (seq_in b)

-- the greater of a roll and the one before it, if there is one
abbrev pub greater : Option (List ℕ) → List ℕ → List ℕ
greater None roll = roll
greater (Some before) roll = if is_below before roll then roll else before

-- the greatest of some rolls and the one before them
abbrev pub greatest_from : Option (List ℕ) → List (List ℕ) → Option (List ℕ)
greatest_from before [] = before
greatest_from before (roll ∷ rolls) = greatest_from (Some (greater before roll)) rolls

-- the greatest of some rolls
abbrev pub greatest : List (List ℕ) → Option (List ℕ)
greatest rolls = greatest_from None rolls
