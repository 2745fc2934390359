-- What sources, sinks and keepers in memory show: their content, their faults and their script.
-- Source: this project's own, for tests of what reads and writes.
use Rattle.std.specs.Prelude.{ℕ, ◌||◌, Bool, List, Some, None, drop, option_map, if◌then◌else◌}
use Rattle.std.specs.declared.option.Option.{Option}
use Rattle.xl_io.specs.Scripts.{Script, next_fails}
use Rattle.xl_io.specs.Keepers.{Held, holding, after_save}
use Rattle.xl_io.specs.Saves.{SaveList}
use Rattle.xl_io.specs.declared.keeper.plain.PlainKeeper.{PlainKeeper}
use Rattle.xl_io.specs.declared.keeper.scripted.MemKeeper.{MemKeeper}
use Rattle.xl_io.specs.declared.keeper.scripted.FailedSave.{FailedSave}
use Rattle.xl_io.specs.declared.source.memory.MemSource.{MemSource}
use Rattle.xl_io.specs.declared.sink.memory.MemSink.{MemSink}

-- the bytes that the source still has to give
abbrev pub bytes_left : MemSource → Option (List ℕ)
bytes_left source = Some (drop source.source.given source.source.bytes.items)

abbrev pub read_faults : MemSource → ℕ
read_faults source = source.failures.count

abbrev pub read_script : MemSource → Script
read_script source = record { failing = source.failures.failing.items; calls = source.failures.calls }

-- the bytes that the sink took
abbrev pub bytes_held : MemSink → Option (List ℕ)
bytes_held sink = Some sink.held.items

abbrev pub write_faults : MemSink → ℕ
write_faults sink = sink.failures.count

abbrev pub write_script : MemSink → Script
write_script sink = record { failing = sink.failures.failing.items; calls = sink.failures.calls }

-- the one number that a keeper which never fails holds
abbrev pub plain_held : PlainKeeper → Option Held
plain_held keeper = Some (holding keeper.seq)

abbrev pub plain_saves : PlainKeeper → SaveList
plain_saves keeper = keeper.saves

-- the number that the last save with Ok, or the last load, left in force
abbrev pub in_force : MemKeeper → ℕ
in_force keeper = keeper.in_force

-- the numbers that a stop may leave
abbrev pub numbers_held : MemKeeper → Option Held
numbers_held keeper = Some (record { in_force = keeper.in_force; asked = option_map (λ save. save.seq) keeper.failed })

-- of the number in force and of a failed save, the number that was written last
abbrev pub last_written : ℕ → Option FailedSave → ℕ
last_written in_force None = in_force
last_written in_force (Some save) = if save.written then save.seq else in_force

-- the number that the next load answers
abbrev pub next_load : MemKeeper → ℕ
next_load keeper = last_written keeper.in_force keeper.failed

-- the numbers that a stop may leave after a save of this number
abbrev pub held_after : MemKeeper → ℕ → Bool → Option Held
held_after keeper seq ok = option_map (λ held. after_save held (Some seq) ok) (numbers_held keeper)

abbrev pub list_of_saves : MemKeeper → SaveList
list_of_saves keeper = keeper.saves

abbrev pub keeper_faults : MemKeeper → ℕ
keeper_faults keeper = keeper.failures.count

abbrev pub fault_script : MemKeeper → Script
fault_script keeper = record { failing = keeper.failures.failing.items; calls = keeper.failures.calls }

-- the calls that leave the asked number, of those that are saves and fail
abbrev pub written_script : MemKeeper → Script
written_script keeper = record { failing = keeper.written.items; calls = keeper.failures.calls }

-- the next call leaves the asked number, if it is a save that fails
abbrev pub next_is_written : MemKeeper → Bool
next_is_written keeper = next_fails (written_script keeper)

-- the number that the next load answers after a save of this number
abbrev pub next_after : MemKeeper → ℕ → Bool → ℕ
next_after keeper seq ok = if ok || next_is_written keeper then seq else in_force keeper
