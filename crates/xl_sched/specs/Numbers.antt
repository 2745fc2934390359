-- Numbers in a line. Source: this project's schedule language.
use Rattle.std.specs.Prelude.{ℕ, Bool, false, ◌==◌, ◌&&◌, ◌||◌, ◌^◌, ◌-◌, not, nat_le, nat_lt, List, [], ◌∷◌, length, Result, Ok, Err, if◌then◌else◌}
use Rattle.std.specs.List.{list_all}
use Rattle.std.specs.Char.{is_ascii_digit}
use Rattle.std.specs.Str.Parse.{digits_value}
use Rattle.xl_sched.specs.declared.refusal.SchedRefusal.{SchedRefusal}
use Rattle.xl_sched.specs.declared.refusal.SchedRefusal.TheVariants.{Number, Absent}

-- decimal digits, the first of which is `0` only if it stands alone
abbrev pub is_number : List ℕ → Bool
is_number [] = false
is_number (first ∷ rest) = list_all is_ascii_digit (first ∷ rest) && (not (first == 48) || length rest == 0)

-- the number that they write, of any size
abbrev pub value_of : List ℕ → ℕ
value_of token = digits_value 10 token

-- a number from the least to the greatest
abbrev pub number_within : ℕ → ℕ → List ℕ → Result ℕ SchedRefusal
number_within least greatest token =
    if is_number token && nat_le least (value_of token) && nat_le (value_of token) greatest then Ok (value_of token)
    else Err (Number token)

-- a number from 0 to 4,294,967,295
abbrev pub number_of : List ℕ → Result ℕ SchedRefusal
number_of token = number_within 0 (2 ^ 32 - 1) token

-- the place of one of the frames sent so far, from 1 on
abbrev pub place_of : ℕ → List ℕ → Result ℕ SchedRefusal
place_of sent token =
    if not (is_number token) then Err (Number token)
    else if nat_lt 0 (value_of token) && nat_le (value_of token) sent then Ok (value_of token)
    else Err (Absent token)
