-- What a sink shows, and what became of a text that was to be written to it. Source: a sink's contract.
use Rattle.std.specs.Prelude.{◌≡◌, ℕ, ◌≤◌, List}
use Rattle.std.specs.declared.option.Option.{Option}
use Rattle.std.specs.Io.KnownBytes.{append_known}
use Rattle.xl_base.specs.Faults.{Rose}
use Rattle.xl_io.specs.Sinks.{GrewByLess}
use Rattle.xl_heartbeat.specs.declared.ends.Ending.{Ending}
use Rattle.xl_heartbeat.specs.declared.ends.Ending.TheVariants.{WriteFault}

-- the bytes that it holds, if it tells them, and how often a write has failed, up to the greatest `u64`
pub record Output : Type 0 where
  pub held : Option (List ℕ)
  pub faults : ℕ

abbrev pub output : Option (List ℕ) → ℕ → Output
output held faults = record { held = held; faults = faults }

-- all of the text was written
pub record Adds (text : List ℕ) (old new : Output) : Type 0 where
  pub held : new.held ≡ append_known old.held text
  pub later : old.faults ≤ new.faults

-- a write failed, and of the text a front was written, not all
pub record AddsLess (text : List ℕ) (old new : Output) : Type 0 where
  pub held : GrewByLess old.held new.held text
  pub failed : Rose old.faults new.faults

-- all was written, unless a write's fault is the end
abbrev pub IsWritten : Ending → List ℕ → Output → Output → Type 0
IsWritten WriteFault text old new = AddsLess text old new
IsWritten other text old new = Adds text old new
