-- A text of rolls, a line for each. Source: this project's own format.
use Rattle.std.specs.Prelude.{ℕ, ◌+◌, ◌==◌, nat_lt, Bool, not, List, [], ◌∷◌, length, fold, find, Option, Some, None, is_none, option_map, if◌then◌else◌}
use Rattle.std.specs.List.{slice_split}
use Rattle.std.specs.Option.{option_or}
use Rattle.std.specs.Result.{result_ok}
use Rattle.hex.specs.Hex.{decode_of}
use Rattle.xl_base.specs.Refusals.{first_of}
use Rattle.xl_lists.specs.Lists.{is_on}
use Rattle.xl_publish.specs.declared.line_refusal.LineRefusal.{LineRefusal}
use Rattle.xl_publish.specs.declared.line_refusal.LineRefusal.TheVariants.{Digits, Stranger, Roll}
use Rattle.xl_publish.specs.declared.line_refusal.RefusedLine.{RefusedLine}
use Rattle.xl_publish.specs.Fields.{members_in}
use Rattle.xl_publish.specs.Refusing.{refusal_of}
use Rattle.xl_publish.specs.Registers.{Register, after_roll}

-- the longest text that is looked at
abbrev pub most_text : ℕ
most_text = 32768

abbrev pub is_newline : ℕ → Bool
is_newline byte = byte == 10

-- the lines of a text: what stands between its newlines
abbrev pub lines_of : List ℕ → List (List ℕ)
lines_of text = slice_split is_newline text

-- the bytes that an even number of hexadecimal digits, of either case, writes: no more than the longest roll has
abbrev pub digits_in : List ℕ → Option (List ℕ)
digits_in line = if nat_lt 618 (length line) then None else result_ok (decode_of line)

-- the first member that a roll names and that isn't one of these
abbrev pub stranger_in : List ℕ → List ℕ → Option ℕ
stranger_in members roll = find (λ m. not (is_on members m)) (members_in roll)

-- why bytes aren't taken where the publishers have these keys, and a roll may name these members: the first cause
abbrev pub roll_refusal : List ℕ → List (Option (List ℕ)) → List ℕ → Option LineRefusal
roll_refusal members keys roll =
    first_of (option_map Roll (refusal_of keys roll) ∷ option_map Stranger (stranger_in members roll) ∷ [])

abbrev pub bytes_refusal : List ℕ → List (Option (List ℕ)) → Option (List ℕ) → Option LineRefusal
bytes_refusal members keys None = Some Digits
bytes_refusal members keys (Some roll) = roll_refusal members keys roll

-- why a line isn't taken; an empty one says nothing
abbrev pub line_refusal : List ℕ → List (Option (List ℕ)) → List ℕ → Option LineRefusal
line_refusal members keys line =
    if length line == 0 then None else bytes_refusal members keys (digits_in line)

abbrev pub after_bytes : List ℕ → Register → Option (List ℕ) → Register
after_bytes members register None = register
after_bytes members register (Some roll) =
    if is_none (roll_refusal members register.keys roll) then after_roll register roll else register

-- the roll of a line is taken, unless it is refused
abbrev pub after_line : List ℕ → Register → List ℕ → Register
after_line members register line =
    if length line == 0 then register else after_bytes members register (digits_in line)

-- and so are those of a text, line by line
abbrev pub after_text : List ℕ → Register → List ℕ → Register
after_text members register text = fold (after_line members) register (lines_of text)

abbrev pub refused_line : ℕ → LineRefusal → RefusedLine
refused_line number cause = record { number = number; cause = cause }

-- the first line that is refused, the first of these having this number
abbrev pub first_refused : List ℕ → List (Option (List ℕ)) → ℕ → List (List ℕ) → Option RefusedLine
first_refused members keys number [] = None
first_refused members keys number (line ∷ lines) =
    option_or (option_map (refused_line number) (line_refusal members keys line))
    (first_refused members keys (number + 1) lines)
