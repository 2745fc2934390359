-- The text of a kept number. Source: this project's own.
use Rattle.std.specs.Prelude.{◌≡◌, ℕ, List, [], ◌∷◌, ◌++◌, decimal, Option, Some, None}

-- its decimal digits, without a leading zero, and a newline
abbrev pub text_of : ℕ → List ℕ
text_of n = decimal n ++ 10 ∷ []

-- this text says this number, and no file says 0
abbrev pub Says : Option (List ℕ) → ℕ → Type 0
Says None n = n ≡ 0
Says (Some text) n = text ≡ text_of n
