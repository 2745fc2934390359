-- Part of a text is written, or a front of it, and then no more. Source: this project's own.
use Rattle.std.specs.Prelude.{◌≡◌, ◌⊎◌, ℕ, ◌+◌, ◌<◌, ◌≤◌, List, length}
use Rattle.std.specs.declared.option.Option.{Option}
use Rattle.std.specs.Io.KnownBytes.{append_known}
use Rattle.xl_base.specs.Faults.{Rose}
use Rattle.xl_io.specs.Sinks.{GrewByFront}
use Rattle.xl_recorder.specs.declared.record_end.RecordEnd.{RecordEnd}
use Rattle.xl_recorder.specs.declared.record_end.RecordEnd.TheVariants.{Write, Memory, Full, Apart}
use Rattle.xl_recorder.specs.declared.room.Room.{Room}
use Rattle.xl_recorder.specs.Limits.{most_entries}

-- how far a recorder has come: its entries and the bytes that it may still write, what its sink holds, and how often a
-- write of that has failed
pub record Part : Type 0 where
  pub room : Room
  pub held : Option (List ℕ)
  pub faults : ℕ

abbrev pub part : Room → Option (List ℕ) → ℕ → Part
part room held faults = record { room = room; held = held; faults = faults }

-- a text of so many entries is written
pub record HasWritten (old : Part) (entries : ℕ) (text : List ℕ) (new : Part) : Type 0 where
  pub count : new.room.entries ≡ old.room.entries + entries
  pub bytes : new.room.bytes + length text ≡ old.room.bytes
  pub held : new.held ≡ append_known old.held text
  pub faults : new.faults ≡ old.faults

-- Why it isn't: only if the sink failed did its count rise, only if there is no room for the text is it full, and
-- entries that may stand there aren't apart
abbrev pub HasReason : Part → Type 0 → ℕ → List ℕ → Part → RecordEnd → Type 0
HasReason old stands entries text new Write = Rose old.faults new.faults
HasReason old stands entries text new Memory = new.faults ≡ old.faults
HasReason old stands entries text new Full =
    (new.faults ≡ old.faults)
    × ((old.room.bytes < length text) ⊎ (most_entries < old.room.entries + entries))
HasReason old stands entries text new Apart = (new.faults ≡ old.faults) × ¬ stands

-- a front of it is written, for which there was room
pub record HasStopped (old : Part) (stands : Type 0) (entries : ℕ) (text : List ℕ) (why : RecordEnd) (new : Part)
    : Type 0 where
  pub front : GrewByFront old.held new.held text
  pub within : length front.written ≤ old.room.bytes
  pub reason : HasReason old stands entries text new why
