-- Lines at which nothing happens: the limit, nodes, liars and the moment. Source: this project's schedule language.
use Rattle.std.specs.Prelude.{ℕ, Bool, true, List, [], ◌∷◌, Option, Some, None, Result, Ok, Err, if◌then◌else◌}
use Rattle.xl_base.specs.Moments.{greatest_millis}
use Rattle.xl_ledger.specs.Limits.{least_limit}
use Rattle.xl_sched.specs.Limits.{most_ledgers}
use Rattle.xl_sched.specs.declared.line.Line.{Line}
use Rattle.xl_sched.specs.declared.line.Line.TheVariants as line
use Rattle.xl_sched.specs.declared.refusal.SchedRefusal.{SchedRefusal}
use Rattle.xl_sched.specs.declared.refusal.SchedRefusal.TheVariants.{Twice}
use Rattle.xl_sched.specs.Refusals.{◌>>=◌, miscounted}
use Rattle.xl_sched.specs.Numbers.{number_within, number_of}
use Rattle.xl_sched.specs.Members.{new_member_of, members_of, trusted_of}
use Rattle.xl_sched.specs.Choices.{validating_of}
use Rattle.xl_sched.specs.Reading.{Reading}

-- `limit n`
abbrev pub limit_line : Reading → List (List ℕ) → Result Line SchedRefusal
limit_line reading (number ∷ []) = do
  limit ← number_within least_limit most_ledgers number
  if reading.limited then Err (Twice number) else Ok (line.Limit limit)
limit_line reading arguments = miscounted arguments

-- `speak v`
abbrev pub speak_line : Reading → List (List ℕ) → Result Line SchedRefusal
speak_line reading (number ∷ []) = do
  version ← number_within 1 2 number
  if reading.spoken then Err (Twice number) else Ok (line.Speak version)
speak_line reading arguments = miscounted arguments

-- a node validates, unless another mode is written
abbrev pub mode_of : Option (List ℕ) → Result Bool SchedRefusal
mode_of None = Ok true
mode_of (Some token) = validating_of token

-- the parts of a node's line from left to right, and then its list
abbrev pub node_of : Reading → List ℕ → List ℕ → List ℕ → Result Bool SchedRefusal → Result Line SchedRefusal
node_of reading number quorum members mode = do
  me ← new_member_of reading.nodes reading.liars number
  least ← number_of quorum
  numbers ← members_of members
  validating ← mode
  list ← trusted_of numbers least
  Ok (line.Node me list validating)

-- `node i q list`, and `node i q list observing`
abbrev pub node_line : Reading → List (List ℕ) → Result Line SchedRefusal
node_line reading (number ∷ quorum ∷ members ∷ []) = node_of reading number quorum members (mode_of None)
node_line reading (number ∷ quorum ∷ members ∷ mode ∷ []) = node_of reading number quorum members (mode_of (Some mode))
node_line reading arguments = miscounted arguments

-- `liar i`
abbrev pub liar_line : Reading → List (List ℕ) → Result Line SchedRefusal
liar_line reading (number ∷ []) = do
  liar ← new_member_of reading.nodes reading.liars number
  Ok (line.Liar liar)
liar_line reading arguments = miscounted arguments

-- `at ms`
abbrev pub at_line : List (List ℕ) → Result Line SchedRefusal
at_line (moment ∷ []) = do
  at ← number_within 0 greatest_millis moment
  Ok (line.At at)
at_line arguments = miscounted arguments
