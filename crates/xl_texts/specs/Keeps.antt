-- How a command keeps its promise. Source: this project's own.
use Rattle.std.specs.Prelude.{◌≡◌, ℕ, true, List, Option, Result, IfOk, IfErr, IfSome, IsErrOf}
use Rattle.std.specs.Io.KnownBytes.{IsAtEnd, append_known}
use Rattle.xl_base.specs.Faults.{Rose}
use Rattle.xl_io.specs.Sinks.{GrewByFront, GrewByLess}
use Rattle.xl_lines.specs.declared.fault.Fault.{Fault}
use Rattle.xl_lines.specs.declared.fault.Fault.TheVariants.{Read, Write, Memory}
use Rattle.xl_lines.specs.declared.machine.Verdict.{Verdict}
use Rattle.xl_lines.specs.Rules.{Told}
use Rattle.xl_lines.specs.Running.{TellsAll}
use Rattle.xl_lines.specs.Soon.{WasRead, ReadsNoFurther}
use Rattle.xl_texts.specs.Promises.{Promise, alone, ShowsEnd, LeavesOut}
use Rattle.xl_texts.specs.Streams.{Streams, streams}

-- the command ended so, and the streams went from old to new
pub record Keeps (promise : Promise) (old new : Streams) (end : Result Verdict Fault) : Type 0 where
  -- the whole text is written, and the verdict is its own
  pub whole : IfOk end (λ verdict. IfSome old.left (λ bytes. TellsAll old.held new.held verdict (promise.told bytes)))
  -- all the bytes were read, if the verdict shows it
  pub to_end : IfOk end (λ verdict. ShowsEnd promise.reads verdict → IsAtEnd new.left)
  -- a front of the text is written, whatever happens
  pub front : IfSome old.left (λ bytes. GrewByFront old.held new.held (promise.told bytes).text)
  -- if a read failed, all is written that is told as soon as the bytes that were read have come, and no more
  pub soon : IsErrOf end Read → (bytes : List ℕ) → WasRead old.left new.left bytes
      → new.held ≡ append_known old.held (promise.soon bytes).text
  -- and the text didn't end there
  pub unended : IsErrOf end Read → (bytes : List ℕ) → WasRead old.left new.left bytes → (promise.soon bytes).closed ≡ true
  -- however it ended, nothing was read behind the piece in which the text ends
  pub further : (bytes : List ℕ) → WasRead old.left new.left bytes → ReadsNoFurther promise.soon bytes
  -- with a fault of the sink some of the text isn't written, and with one of the source if that shows its end
  pub less : IfErr end (λ fault. IfSome old.left (λ bytes. LeavesOut promise.shows (promise.told bytes).text fault
      → GrewByLess old.held new.held (promise.told bytes).text))
  -- a fault is answered if its count rose, and only then
  pub read : IsErrOf end Read → Rose old.reads new.reads
  pub write : IsErrOf end Write → Rose old.writes new.writes
  pub read_exact : ¬ (IsErrOf end Read) → new.reads ≡ old.reads
  pub write_exact : ¬ (IsErrOf end Write) → new.writes ≡ old.writes
  pub complete : IfErr end (λ fault. ¬ (Rose old.reads new.reads) → ¬ (Rose old.writes new.writes) → fault ≡ Memory)

-- this text was said alone: its promise is kept whatever an input shows that isn't touched
abbrev pub SaysAlone : Told → (held : Option (List ℕ)) (writes : ℕ) (held' : Option (List ℕ)) (writes' : ℕ) →
    Result Verdict Fault → Type 0
SaysAlone told held writes held' writes' end =
    (left : Option (List ℕ)) (reads : ℕ) →
    Keeps (alone told) (streams left reads held writes) (streams left reads held' writes') end
