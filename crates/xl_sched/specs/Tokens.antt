-- A line as tokens. Source: this project's schedule language.
use Rattle.std.specs.Prelude.{◌≡◌, ◌++◌, ℕ, Bool, false, ◌==◌, ◌||◌, not, nat_le, ◌&&◌, List, [], ◌∷◌, length, filter, map, take, codes, if◌then◌else◌}
use Rattle.std.specs.List.{slice_split}

-- a space or a tab
abbrev pub is_blank : ℕ → Bool
is_blank b = b == 32 || b == 9

-- the longest runs of other bytes: what stands between blanks, unless nothing does
abbrev pub tokens : List ℕ → List (List ℕ)
tokens line = filter (λ run. not (length run == 0)) (slice_split is_blank line)

-- bytes that begin with no blank
abbrev pub BeginsToken : List ℕ → Type 0
BeginsToken [] = Unit {0}
BeginsToken (b ∷ bs) = is_blank b ≡ false

-- bytes that are cut before their first blank
pub record IsTokenSplit (bytes token rest : List ℕ) : Type 0 where
  pub whole : token ++ rest ≡ bytes
  pub token_tokens : BeginsToken bytes → tokens bytes ≡ (if length token == 0 then [] else token ∷ tokens rest)

-- what stands between the commas of a token, which may be nothing
abbrev pub entries : List ℕ → List (List ℕ)
entries token = slice_split (λ b. b == 44) token

-- a byte as it is printed: a visible one of ASCII, or `?`
abbrev pub shown_byte : ℕ → ℕ
shown_byte b = if nat_le 33 b && nat_le b 126 then b else 63

-- a token as it is printed: its first 32 bytes, and `-` for none
abbrev pub shown_token : List ℕ → List ℕ
shown_token [] = codes "-"
shown_token (b ∷ bs) = map shown_byte (take 32 (b ∷ bs))
