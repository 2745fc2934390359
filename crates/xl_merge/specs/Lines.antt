-- The lines that `xl merge` reads. Source: this project's own formats; tokens, numbers and refusals are those of
-- schedules.
use Rattle.std.specs.Prelude.{ℕ, ◌≤◌, ◌&&◌, nat_le, Bool, false, List, [], ◌∷◌, length, codes, Option, Some, None, is_some, Result, Ok, Err, if◌then◌else◌}
use Rattle.std.specs.Option.{ok_or}
use Rattle.std.specs.Result.{result_ok}
use Rattle.std.specs.Str.{bytes_eq}
use Rattle.hex.specs.Hex.{decode_of}
use Rattle.xl_base.specs.Moments.{greatest_millis}
use Rattle.xl_publish.specs.Registers.{Register, key_of as kept_key_of}
use Rattle.xl_sched.specs.declared.refusal.SchedRefusal.{SchedRefusal}
use Rattle.xl_sched.specs.declared.refusal.SchedRefusal.TheVariants.{Header, Word, Id, Twice}
use Rattle.xl_sched.specs.Answers.{first_token, is_comment}
use Rattle.xl_sched.specs.Names.{id_written}
use Rattle.xl_sched.specs.Numbers.{number_within}
use Rattle.xl_sched.specs.Refusals.{◌>>=◌, miscounted}
use Rattle.xl_merge.specs.declared.line.Line.{Line}
use Rattle.xl_merge.specs.declared.line.Line.TheVariants as line

-- `xl-publish 1`
abbrev pub is_header : List (List ℕ) → Bool
is_header (name ∷ version ∷ []) = bytes_eq name (codes "xl-publish") && bytes_eq version (codes "1")
is_header tokens = false

-- line 1 must be the header
abbrev pub header_line : List (List ℕ) → Result (Option Line) SchedRefusal
header_line tokens = if is_header tokens then Ok None else Err (Header (first_token tokens))

-- the number of a publisher that has no key yet
abbrev pub new_publisher_of : Register → List ℕ → Result ℕ SchedRefusal
new_publisher_of register token = do
  publisher ← number_within 1 16 token
  if is_some (kept_key_of register publisher) then Err (Twice token) else Ok publisher

-- a key, by its 64 digits
abbrev pub key_of : List ℕ → Result (List ℕ) SchedRefusal
key_of digits = ok_or (id_written digits) (Id digits)

-- `publisher p key`
abbrev pub publisher_line : Register → List (List ℕ) → Result Line SchedRefusal
publisher_line register (number ∷ digits ∷ []) = do
  publisher ← new_publisher_of register number
  key ← key_of digits
  Ok (line.Publisher publisher key)
publisher_line register arguments = miscounted arguments

-- `threshold t`
abbrev pub threshold_line : List (List ℕ) → Result Line SchedRefusal
threshold_line (number ∷ []) = do
  threshold ← number_within 1 16 number
  Ok (line.Threshold threshold)
threshold_line arguments = miscounted arguments

-- 1 to 400 bytes, as hexadecimal digits of either case
abbrev pub roll_of : List ℕ → Result (List ℕ) SchedRefusal
roll_of digits = do
  bytes ← ok_or (result_ok (decode_of digits)) (Id digits)
  if nat_le 1 (length bytes) && nat_le (length bytes) 400 then Ok bytes else Err (Id digits)

-- `roll digits`
abbrev pub roll_line : List (List ℕ) → Result Line SchedRefusal
roll_line (digits ∷ []) = do
  bytes ← roll_of digits
  Ok (line.Roll bytes)
roll_line arguments = miscounted arguments

-- `at ms`
abbrev pub at_line : List (List ℕ) → Result Line SchedRefusal
at_line (moment ∷ []) = do
  at ← number_within 0 greatest_millis moment
  Ok (line.At at)
at_line arguments = miscounted arguments

-- `list`
abbrev pub list_line : List (List ℕ) → Result Line SchedRefusal
list_line [] = Ok line.List
list_line arguments = miscounted arguments

-- a line by its first token
abbrev pub worded_line : Register → List ℕ → List (List ℕ) → Result Line SchedRefusal
worded_line register token arguments =
    if bytes_eq token (codes "publisher") then publisher_line register arguments
    else if bytes_eq token (codes "threshold") then threshold_line arguments
    else if bytes_eq token (codes "roll") then roll_line arguments
    else if bytes_eq token (codes "at") then at_line arguments
    else if bytes_eq token (codes "list") then list_line arguments
    else Err (Word token)

abbrev pub some_line : Result Line SchedRefusal → Result (Option Line) SchedRefusal
some_line result = do
  line ← result
  Ok (Some line)

-- a later line; an empty one and a comment are passed over
abbrev pub later_line : Register → List (List ℕ) → Result (Option Line) SchedRefusal
later_line register [] = Ok None
later_line register (token ∷ arguments) =
    if is_comment token then Ok None else some_line (worded_line register token arguments)

-- its moment is one that there may be
abbrev pub IsFitLine : Line → Type 0
IsFitLine (line.At at) = at ≤ greatest_millis
IsFitLine other = Unit {0}

abbrev pub IsFit : Option Line → Type 0
IsFit None = Unit {0}
IsFit (Some line) = IsFitLine line
