-- What a reader answers to a line. Source: this project's schedule language.
use Rattle.std.specs.Prelude.{ℕ, ◌==◌, ◌&&◌, Bool, false, nat_lt, List, [], ◌∷◌, length, decimal, codes, Option, Some, None, Result, Ok, Err, if◌then◌else◌}
use Rattle.std.specs.Str.{bytes_eq}
use Rattle.xl_sched.specs.Limits.{most_bytes, most_lines}
use Rattle.xl_sched.specs.declared.event.What.{What}
use Rattle.xl_sched.specs.declared.line.Line.{Line}
use Rattle.xl_sched.specs.declared.refusal.SchedRefusal.{SchedRefusal}
use Rattle.xl_sched.specs.declared.refusal.SchedRefusal.TheVariants.{Header, LongLine, Limit}
use Rattle.xl_sched.specs.Refusals.{◌>>=◌, PutsGivenMemory}
use Rattle.xl_sched.specs.Tokens.{tokens}
use Rattle.xl_sched.specs.Reading.{Reading, counted, after}
use Rattle.xl_sched.specs.Words.{event_line, worded_line}

-- `xl-schedule 1`
abbrev pub is_header : List (List ℕ) → Bool
is_header (name ∷ version ∷ []) = bytes_eq name (codes "xl-schedule") && bytes_eq version (codes "1")
is_header line = false

-- the first token, or nothing
abbrev pub first_token : List (List ℕ) → List ℕ
first_token [] = []
first_token (token ∷ rest) = token

-- line 1 must be the header
abbrev pub header_line : List (List ℕ) → Result (Option Line) SchedRefusal
header_line line = if is_header line then Ok None else Err (Header (first_token line))

-- a comment begins with `#`
abbrev pub is_comment : List ℕ → Bool
is_comment [] = false
is_comment (first ∷ rest) = first == 35

abbrev pub some_line : Result Line SchedRefusal → Result (Option Line) SchedRefusal
some_line result = do
  line ← result
  Ok (Some line)

-- what a call puts of the line of an event, of which this is what happens, unless memory ran out
abbrev pub PutsEvent : Reading → Result (Unit {0}) SchedRefusal → Option Line → Result What SchedRefusal → Type 0
PutsEvent reading result put exact = PutsGivenMemory result put (some_line (event_line reading exact))

-- a later line; an empty one and a comment are passed over
abbrev pub later_line : Reading → ℕ → List (List ℕ) → Result (Option Line) SchedRefusal
later_line reading sent [] = Ok None
later_line reading sent (token ∷ arguments) =
    if is_comment token then Ok None else some_line (worded_line reading sent token arguments)

-- a line by its tokens
abbrev pub line_of_tokens : Reading → ℕ → List (List ℕ) → Result (Option Line) SchedRefusal
line_of_tokens reading sent line =
    if reading.lines == 0 then header_line line else later_line reading sent line

-- a line, unless it has too many bytes or is one too many
abbrev pub bounded_line : Reading → ℕ → List ℕ → Result (Option Line) SchedRefusal
bounded_line reading sent bytes =
    if nat_lt most_bytes (length bytes) then Err (LongLine (decimal most_bytes))
    else if reading.lines == most_lines then Err (Limit (decimal most_lines))
    else line_of_tokens reading sent (tokens bytes)

-- a line that was passed over or was the header, a line that says something, or a refusal; with what is known then
pub data LineAnswer : Type 0 where
  passes : Reading → LineAnswer
  gives : Line → Reading → LineAnswer
  refuses : SchedRefusal → LineAnswer

abbrev pub answer_to : Reading → Result (Option Line) SchedRefusal → LineAnswer
answer_to reading (Ok None) = passes (counted reading)
answer_to reading (Ok (Some line)) = gives line (after reading line)
answer_to reading (Err refusal) = refuses refusal

-- the answer of a reader that says this of a line, and knows that after it
abbrev pub answered : Option Line → Reading → LineAnswer
answered None known = passes known
answered (Some line) known = gives line known

-- the answer to a line where this many frames were sent; a refused line changes nothing
abbrev pub reading_of : Reading → ℕ → List ℕ → LineAnswer
reading_of reading sent bytes = answer_to reading (bounded_line reading sent bytes)
