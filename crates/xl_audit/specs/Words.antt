-- A line of a journal as tokens: they part at each single space. Source: this project's own formats.
use Rattle.std.specs.Prelude.{ℕ, Bool, ◌==◌, List, [], ◌∷◌, drop, if◌then◌else◌}
use Rattle.std.specs.List.{slice_split}

abbrev pub is_space : ℕ → Bool
is_space b = b == 32

abbrev pub tokens : List ℕ → List (List ℕ)
tokens line = slice_split is_space line

-- the first token, or nothing if there is none
abbrev pub first : List (List ℕ) → List ℕ
first [] = []
first (word ∷ words) = word

-- the tokens after the first
abbrev pub others : List (List ℕ) → List (List ℕ)
others [] = []
others (word ∷ words) = words

-- the token behind this many
abbrev pub word_at : List (List ℕ) → ℕ → List ℕ
word_at words n = first (drop n words)

-- the tokens of these bytes, or none
abbrev pub tokens_if : Bool → List ℕ → List (List ℕ)
tokens_if more bytes = if more then tokens bytes else []
