-- Tokens of a journal's line: numbers, digits and words. Source: this project's own formats.
use Rattle.std.specs.Prelude.{ℕ, ◌==◌, ◌&&◌, ◌||◌, ◌^◌, ◌-◌, not, nat_le, Bool, true, false, List, [], length, is_some, codes, Result, Ok, Err, Some, None, if◌then◌else◌}
use Rattle.std.specs.declared.option.Option.{Option}
use Rattle.std.specs.List.{list_all}
use Rattle.std.specs.Option.{ok_or}
use Rattle.std.specs.Result.{result_ok}
use Rattle.std.specs.Str.{bytes_eq}
use Rattle.hex.specs.Hex.{decode_of, decode_sized}
use Rattle.xl_base.specs.Moments.{greatest_millis}
use Rattle.xl_tags.specs.Rings.{Ring, key_of}
use Rattle.xl_store.specs.declared.entry.Saved.{Saved}
use Rattle.xl_store.specs.declared.entry.Saved.TheVariants as saved
use Rattle.xl_sched.specs.declared.refusal.SchedRefusal.{SchedRefusal}
use Rattle.xl_sched.specs.declared.refusal.SchedRefusal.TheVariants.{Number, Id, Choice}
use Rattle.xl_sched.specs.Members.{member_of}
use Rattle.xl_sched.specs.Numbers.{number_within}
use Rattle.xl_sched.specs.Refusals.{◌>>=◌}

-- a moment in milliseconds
abbrev pub moment_of : List ℕ → Result ℕ SchedRefusal
moment_of token = number_within 0 greatest_millis token

-- a number from this one to the greatest of 64 bits
abbrev pub number_from : ℕ → List ℕ → Result ℕ SchedRefusal
number_from least token = number_within least (2 ^ 64 - 1) token

-- a lower-case hexadecimal digit
abbrev pub is_lower_digit : ℕ → Bool
is_lower_digit c = (nat_le 48 c && nat_le c 57) || (nat_le 97 c && nat_le c 102)

-- 32 bytes, by 64 lower-case digits
abbrev pub id_of : List ℕ → Result (List ℕ) SchedRefusal
id_of token =
    if list_all is_lower_digit token then ok_or (result_ok (decode_sized token 32)) (Id token) else Err (Id token)

-- some bytes, by their lower-case digits, or `-` for none
abbrev pub bytes_of : List ℕ → Result (List ℕ) SchedRefusal
bytes_of token =
    if bytes_eq token (codes "-") then Ok []
    else if not (length token == 0) && list_all is_lower_digit token
    then ok_or (result_ok (decode_of token)) (Id token)
    else Err (Id token)

-- whether it is `yes`, and not `no`
abbrev pub yes_of : List ℕ → Result Bool SchedRefusal
yes_of token =
    if bytes_eq token (codes "yes") then Ok true
    else if bytes_eq token (codes "no") then Ok false
    else Err (Choice token)

-- a member that has a key
abbrev pub peer_of : Ring → List ℕ → Result ℕ SchedRefusal
peer_of ring token = do
  member ← member_of token
  if is_some (key_of ring member) then Ok member else Err (Number token)

-- the count of faults with which a save failed
abbrev pub failure_of : List ℕ → Result (Option Saved) SchedRefusal
failure_of token = do
  count ← number_from 1 token
  Ok (Some (saved.Failed count))

-- how a save was answered, by this token and the next
abbrev pub outcome_of : List ℕ → List ℕ → Result (Option Saved) SchedRefusal
outcome_of how count =
    if bytes_eq how (codes "-") then Ok None
    else if bytes_eq how (codes "ok") then Ok (Some saved.Ok)
    else if bytes_eq how (codes "failed") then failure_of count
    else Err (Choice how)
