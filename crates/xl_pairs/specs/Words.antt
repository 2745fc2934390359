-- The words of the schedules that `xl lists` reads. Source: this project's own formats.
use Rattle.std.specs.Prelude.{ℕ, ◌==◌, ◌&&◌, ◌||◌, Bool, not, List, length, take, drop, codes, Option, Some, None, if◌then◌else◌}
use Rattle.std.specs.List.{position_or_len}
use Rattle.std.specs.Str.{bytes_eq}
use Rattle.xl_sched.specs.Answers.{is_comment}
use Rattle.xl_sched.specs.Tokens.{is_blank}

-- the bytes from the first on that is no blank
abbrev pub without_blanks : List ℕ → List ℕ
without_blanks line = drop (position_or_len (λ b. not (is_blank b)) line) line

-- what stands there before the next blank
abbrev pub first_word : List ℕ → List ℕ
first_word line = take (position_or_len is_blank (without_blanks line)) (without_blanks line)

-- the words that may stand at the front of a line
abbrev pub is_own : List ℕ → Bool
is_own word =
    bytes_eq word (codes "limit") || bytes_eq word (codes "node") || bytes_eq word (codes "liar")
    || bytes_eq word (codes "name") || bytes_eq word (codes "at")

-- a word is there, and neither begins a comment nor may stand there
abbrev pub is_foreign : List ℕ → Bool
is_foreign word = not (length word == 0) && not (is_comment word) && not (is_own word)

-- the first word of a line, if it may not stand there
abbrev pub foreign_word : List ℕ → Option (List ℕ)
foreign_word line = if is_foreign (first_word line) then Some (first_word line) else None
