-- A journal that is written behind a run. Source: this project's own.
use Rattle.std.specs.Prelude.{◌≡◌, ℕ, ◌≤◌, ◌&&◌, Bool, true, false, List}
use Rattle.xl_base.specs.declared.status.Status.{Status}
use Rattle.xl_base.specs.declared.status.Status.TheVariants as status
use Rattle.xl_io.specs.Sinks.{GrewByFront}
use Rattle.xl_heartbeat.specs.Outputs.{Output, Adds, AddsLess}
use Rattle.xl_store.specs.declared.entry.Entry.{Entry}
use Rattle.xl_core.specs.declared.settings.Settings.{Settings as CoreSettings}
use Rattle.xl_audit.specs.Journals.{journal_text, untagged_journal_text}
use Rattle.xl_settings.specs.declared.settings.Settings.{Settings}
use Rattle.xl_validator.specs.Openings.{core_settings}

-- a run ended by its time, or since all turns of its store were drawn
abbrev pub is_over : Status → Bool
is_over status.Done = true
is_over status.StoreFull = true
is_over other = false

-- whether the journal of a run that ended so is written, if it is asked
abbrev pub is_written : Bool → Status → Bool
is_written asked ended = asked && is_over ended

-- the text of a history, with keys and tags or without
abbrev pub text_by : Bool → CoreSettings → ℕ → ℕ → List Entry → List ℕ
text_by true settings moment kept history = journal_text settings moment kept history
text_by false settings moment kept history = untagged_journal_text settings moment kept history

-- the text of a history of the core that settings open at a moment, with the number that was kept
abbrev pub text_of : Settings → ℕ → ℕ → List Entry → List ℕ
text_of s moment kept history = text_by s.journal_keys (core_settings s) moment kept history

-- a front of the text was written
pub record AddsFront (text : List ℕ) (old new : Output) : Type 0 where
  pub held : GrewByFront old.held new.held text
  pub later : old.faults ≤ new.faults

-- What is written of a text behind a run that ended so, by the status that the command then has: with a write's fault not
-- all of it, if memory ran out a front, and else all of it, and the status is the run's
abbrev pub IsWritten : List ℕ → Status → Status → Output → Output → Type 0
IsWritten text ended status.WriteFault old new = AddsLess text old new
IsWritten text ended status.OutOfMemory old new = AddsFront text old new
IsWritten text ended end old new = (end ≡ ended) × Adds text old new
