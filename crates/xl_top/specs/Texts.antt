-- What came of a command that writes a text. Source: this project's own.
use Rattle.std.specs.Prelude.{◌≡◌, ◌≢◌, ℕ, true, List, IfSome, ◌⊎◌}
use Rattle.std.specs.Io.KnownBytes.{IsAtEnd, append_known}
use Rattle.xl_base.specs.Faults.{Rose}
use Rattle.xl_base.specs.declared.status.Status.{Status}
use Rattle.xl_base.specs.declared.status.Status.TheVariants as status
use Rattle.xl_io.specs.Sinks.{GrewByFront}
use Rattle.xl_lines.specs.declared.machine.Verdict.TheVariants.{Good, Found, Refused}
use Rattle.xl_lines.specs.Running.{TellsAll}
use Rattle.xl_lines.specs.Soon.{WasRead, ReadsNoFurther}
use Rattle.xl_texts.specs.Promises.{IsAtItsEnd}
use Rattle.xl_texts.specs.Streams.{Streams}
use Rattle.xl_replay.specs.Headlines.{names_of, world_after, AddsReport}
use Rattle.xl_replay.specs.Replays.{report_of}
use Rattle.xl_top.specs.Statuses.{IsTold, IsWritten, status_of}
use Rattle.xl_words.specs.declared.command.Telling.{Telling}
use Rattle.xl_words.specs.declared.command.Telling.TheVariants.{Replay}
use Rattle.xl_top.specs.Commands.{promise_by, ReadsTo}

-- A command that writes a text ended with this status, and the streams went from old to new
pub record WritesText (telling : Telling) (old new : Streams) (end : Status) : Type 0 where
  -- the whole text is written, and it says what the status says
  pub done : end ≡ status.Done → IfSome old.left (λ bytes. TellsAll old.held new.held Good ((promise_by telling).told bytes))
  pub fork : end ≡ status.Fork → IfSome old.left (λ bytes. TellsAll old.held new.held Found ((promise_by telling).told bytes))
  pub refused : end ≡ status.InputRefused
      → IfSome old.left (λ bytes. TellsAll old.held new.held Refused ((promise_by telling).told bytes))
  -- however a replay ends, if the line `forged 0` was written, so were all `full` and `short` lines of a report that is
  -- a headline's
  pub as_written : telling ≡ Replay
      → IfSome old.left (λ bytes. AddsReport (names_of bytes) (world_after bytes) old.held new.held (report_of bytes))
  -- unless a line is refused, the input was read to its end, if the command reads one, and an auditor says yes
  pub at_end : (end ≡ status.Done) ⊎ (end ≡ status.Fork) → ReadsTo (promise_by telling).reads end → IsAtEnd new.left
  -- a front of the text is written, whatever happens
  pub front : IfSome old.left (λ bytes. GrewByFront old.held new.held ((promise_by telling).told bytes).text)
  -- if a read failed, all is written that is told as soon as the bytes that were read have come, and no more
  pub soon : end ≡ status.ReadFault → (bytes : List ℕ) → WasRead old.left new.left bytes
      → new.held ≡ append_known old.held ((promise_by telling).soon bytes).text
  -- and the text didn't end there
  pub unended : end ≡ status.ReadFault → (bytes : List ℕ) → WasRead old.left new.left bytes
      → ((promise_by telling).soon bytes).closed ≡ true
  -- however it ended, nothing was read behind the piece in which the text ends
  pub further : (bytes : List ℕ) → WasRead old.left new.left bytes → ReadsNoFurther (promise_by telling).soon bytes
  -- a failed read ends it with its status, and so does a failed write
  pub read_exact : end ≢ status.ReadFault → new.reads ≡ old.reads
  pub write_exact : end ≢ status.WriteFault → new.writes ≡ old.writes
  -- if no read and no write failed, the whole text is written, or memory ran out
  pub complete : ¬ (Rose old.reads new.reads) → ¬ (Rose old.writes new.writes)
      → IsTold end ⊎ (end ≡ status.OutOfMemory)
  -- if a whole text is written that shows its end, the status is the one of its end, or memory ran out
  pub whole : IfSome old.left (λ bytes.
      IsAtItsEnd (promise_by telling).shows ((promise_by telling).told bytes).text old.reads new.reads
      → IsWritten old.held new.held ((promise_by telling).told bytes).text
      → (end ≡ status_of ((promise_by telling).told bytes).verdict) ⊎ (end ≡ status.OutOfMemory))

-- a status that names a fault is answered only if a call of that kind failed
pub record HasCause (ended : Status) (read write keep net : Type 0) : Type 0 where
  pub by_read : ended ≡ status.ReadFault → read
  pub by_write : ended ≡ status.WriteFault → write
  pub by_keeper : ended ≡ status.KeepFault → keep
  pub by_net : ended ≡ status.NetFault → net
