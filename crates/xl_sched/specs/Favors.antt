-- Lines of votes on amendments and the fee. Source: this project's schedule language.
use Rattle.std.specs.Prelude.{ℕ, ◌==◌, ◌||◌, nat_le, nat_lt, List, [], ◌∷◌, length, codes, Option, Some, None, Result, Ok, Err, if◌then◌else◌}
use Rattle.std.specs.Str.{bytes_eq}
use Rattle.xl_base.specs.declared.ids.TxId.{TxId}
use Rattle.xl_lists.specs.Lists.{is_on}
use Rattle.xl_sched.specs.declared.favor.Favor.{Favor}
use Rattle.xl_sched.specs.Limits.{most_bytes, most_lines}
use Rattle.xl_sched.specs.declared.named.Named.{Named}
use Rattle.xl_sched.specs.declared.refusal.SchedRefusal.{SchedRefusal}
use Rattle.xl_sched.specs.declared.refusal.SchedRefusal.TheVariants.{Id, Absent}
use Rattle.xl_sched.specs.Members.{member_of}
use Rattle.xl_sched.specs.Numbers.{number_of}
use Rattle.xl_sched.specs.Reading.{Reading, counted}
use Rattle.xl_sched.specs.Refusals.{◌>>=◌, miscounted}
use Rattle.xl_sched.specs.Tokens.{tokens}
use Rattle.xl_sched.specs.TxSets.{tx_set_of}

-- a member that is declared, as a node or as a liar
abbrev pub voter_of : Reading → List ℕ → Result ℕ SchedRefusal
voter_of reading token = do
  member ← member_of token
  if is_on reading.nodes member || is_on reading.liars member then Ok member else Err (Absent token)

-- ids that are joined by single commas and rise strictly, at most 32, or `-` for none
abbrev pub favored_of : List Named → List ℕ → Result (List TxId) SchedRefusal
favored_of names token = do
  ids ← tx_set_of names token
  if nat_le (length ids) 32 then Ok ids else Err (Id token)

-- `m fee ids`, from left to right
abbrev pub favor_of : Reading → List (List ℕ) → Result Favor SchedRefusal
favor_of reading (number ∷ value ∷ joined ∷ []) = do
  member ← voter_of reading number
  fee ← number_of value
  ids ← favored_of reading.names joined
  Ok (record { member = member; fee = fee; ids = ids })
favor_of reading arguments = miscounted arguments

abbrev pub some_favor : Result Favor SchedRefusal → Result (Option Favor) SchedRefusal
some_favor result = do
  favor ← result
  Ok (Some favor)

-- a line by its tokens, where the first is `favor`
abbrev pub favor_by : Reading → List (List ℕ) → Result (Option Favor) SchedRefusal
favor_by reading [] = Ok None
favor_by reading (token ∷ arguments) =
    if bytes_eq token (codes "favor") then some_favor (favor_of reading arguments) else Ok None

-- line 1 is none, and neither is a line that is too long or one too many
abbrev pub favor_line : Reading → List ℕ → Result (Option Favor) SchedRefusal
favor_line reading bytes =
    if reading.lines == 0 || reading.lines == most_lines || nat_lt most_bytes (length bytes) then Ok None
    else favor_by reading (tokens bytes)

-- what is known then; where it was none nothing was read
abbrev pub after_favor : Reading → Option Favor → Reading
after_favor reading None = reading
after_favor reading (Some favor) = counted reading
