-- The exit statuses of the program. Source: this project's own; 0 for success is that of POSIX.
use Rattle.std.specs.Prelude.{ℕ}
use Rattle.xl_base.specs.declared.status.Status.{Status}
use Rattle.xl_base.specs.declared.status.Status.TheVariants.{Done, Fork, WordsRefused, InputRefused, ReadFault, WriteFault, OutOfMemory, KeepFault, NetFault, StoreFull}

-- the exit status that a run ends with
abbrev pub code_of : Status → ℕ
code_of Done = 0
code_of Fork = 1
code_of WordsRefused = 2
code_of InputRefused = 3
code_of ReadFault = 4
code_of WriteFault = 5
code_of OutOfMemory = 6
code_of KeepFault = 7
code_of NetFault = 8
code_of StoreFull = 9
