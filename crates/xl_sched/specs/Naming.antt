-- Lines that give names, to ids and to ledgers. Source: this project's schedule language.
use Rattle.std.specs.Prelude.{ℕ, Bool, nat_lt, List, [], ◌∷◌, length, decimal, Result, Ok, Err, if◌then◌else◌}
use Rattle.xl_sched.specs.Limits.{most_names}
use Rattle.xl_sched.specs.declared.line.Line.{Line}
use Rattle.xl_sched.specs.declared.line.Line.TheVariants as line
use Rattle.xl_sched.specs.declared.refusal.SchedRefusal.{SchedRefusal}
use Rattle.xl_sched.specs.declared.refusal.SchedRefusal.TheVariants.{Limit}
use Rattle.xl_sched.specs.Refusals.{◌>>=◌, miscounted}
use Rattle.xl_sched.specs.Numbers.{number_of}
use Rattle.xl_sched.specs.Names.{id_of, new_name_of}
use Rattle.xl_sched.specs.Ledgers.{parent_of, header_after}
use Rattle.xl_sched.specs.Reading.{Reading}

-- whether as many names are declared as may be, `root` not counted
abbrev pub has_most_names : Reading → Bool
has_most_names reading = nat_lt most_names (length reading.names)

-- `name w id`
abbrev pub named_line : Reading → List (List ℕ) → Result Line SchedRefusal
named_line reading (name ∷ id ∷ []) = do
  fresh ← new_name_of reading.names name
  ledger ← id_of reading.names id
  Ok (line.Name fresh ledger)
named_line reading arguments = miscounted arguments

-- the limit is tested before all else
abbrev pub name_line : Reading → List (List ℕ) → Result Line SchedRefusal
name_line reading arguments =
    if has_most_names reading then Err (Limit (decimal most_names)) else named_line reading arguments

-- `ledger w p close`
abbrev pub named_ledger_line : Reading → List (List ℕ) → Result Line SchedRefusal
named_ledger_line reading (name ∷ parent ∷ close ∷ []) = do
  fresh ← new_name_of reading.names name
  above ← parent_of reading.names parent
  closed ← number_of close
  Ok (line.Ledger fresh parent (header_after above closed))
named_ledger_line reading arguments = miscounted arguments

-- the limit of names is tested before all else
abbrev pub ledger_line : Reading → List (List ℕ) → Result Line SchedRefusal
ledger_line reading arguments =
    if has_most_names reading then Err (Limit (decimal most_names)) else named_ledger_line reading arguments
