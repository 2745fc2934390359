-- The statuses of a command that writes a text. Source: this project's own.
use Rattle.std.specs.Prelude.{◌≡◌, ℕ, List, ◌++◌, Some}
use Rattle.std.specs.declared.option.Option.{Option}
use Rattle.xl_base.specs.declared.status.Status.{Status}
use Rattle.xl_base.specs.declared.status.Status.TheVariants.{Done, Fork, WordsRefused, InputRefused, KeepFault, NetFault, StoreFull}
use Rattle.xl_lines.specs.declared.machine.Verdict.{Verdict}
use Rattle.xl_lines.specs.declared.machine.Verdict.TheVariants.{Good, Found, Refused}

-- the whole text was written
abbrev pub IsTold : Status → Type 0
IsTold Done = Unit {0}
IsTold Fork = Unit {0}
IsTold InputRefused = Unit {0}
IsTold other = ⊥

-- such a command may answer it
abbrev pub IsAnswered : Status → Type 0
IsAnswered WordsRefused = ⊥
IsAnswered KeepFault = ⊥
IsAnswered NetFault = ⊥
IsAnswered StoreFull = ⊥
IsAnswered other = Unit {0}

-- the status of a text that is written whole
abbrev pub status_of : Verdict → Status
status_of Good = Done
status_of Found = Fork
status_of Refused = InputRefused

-- what is held is known, and the whole text came to it
abbrev pub IsWritten : Option (List ℕ) → Option (List ℕ) → List ℕ → Type 0
IsWritten before after text = (held : List ℕ) × (before ≡ Some held) × (after ≡ Some (held ++ text))
