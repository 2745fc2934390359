-- What the heartbeat and the last reports wrote together.
use Rattle.std.proofs.Common.{◌≡◌, ℕ, List, ◌++◌, sym, subst}
use Rattle.xl_store.specs.Calls.{Call}
use Rattle.xl_heartbeat.specs.declared.ends.BeatEnd.{BeatEnd}
use Rattle.xl_heartbeat.specs.declared.ends.Ending.{Ending}
use Rattle.xl_heartbeat.specs.declared.ends.Ending.TheVariants as ending
use Rattle.xl_heartbeat.specs.declared.ends.Stopping.{Stopping}
use Rattle.xl_heartbeat.specs.declared.ends.Stopping.TheVariants as stopping
use Rattle.xl_heartbeat.specs.Outputs.{Output, AddsLess, IsWritten}
use Rattle.xl_heartbeat.specs.Beats.{lines_of}
use Rattle.xl_heartbeat.specs.Statuses.{status_of_run}
use Rattle.xl_heartbeat.proofs.Writing.{adds_both, adds_then_less, less_of_more}
use Rattle.xl_heartbeat.proofs.Pulses.{lines_more}
use Rattle.xl_workers.specs.Sharing.{IsOutput}
use Rattle.xl_workers.specs.Working.{IsWrittenAfter}

same_after : (xs ys : List ℕ) (old mid new : Output) → AddsLess xs old mid → new ≡ mid → AddsLess (xs ++ ys) old new
same_after xs ys old mid new a same =
    less_of_more old new xs ys (subst (λ (o : Output). AddsLess xs old o) (sym same) a)

-- if no write's fault ended the heartbeat, the last reports decide
after_beats : (xs ys : List ℕ) (old mid new : Output) (run last : Ending) (stop : Stopping)
    → IsWritten run xs old mid → IsWrittenAfter run last ys mid new
    → IsOutput (status_of_run (record { run = run; stop = stop }) last) (xs ++ ys) old new
after_beats xs ys old mid new ending.WriteFault ending.WriteFault stop a b = same_after xs ys old mid new a b
after_beats xs ys old mid new ending.WriteFault last stop a b = same_after xs ys old mid new a b
after_beats xs ys old mid new run ending.WriteFault stop a b = adds_then_less old mid new xs ys a b
after_beats xs ys old mid new run last stopping.Done a b = adds_both old mid new xs ys a b
after_beats xs ys old mid new run last stop a b = adds_both old mid new xs ys a b

pub outputs : (calls more : List Call) (old mid new : Output) (beats : BeatEnd) (last : Ending)
    → IsWritten beats.run (lines_of calls) old mid → IsWrittenAfter beats.run last (lines_of more) mid new
    → IsOutput (status_of_run beats last) (lines_of (calls ++ more)) old new
outputs calls more old mid new beats last a b =
    subst (λ (text : List ℕ). IsOutput (status_of_run beats last) text old new) (sym (lines_more calls more))
    (after_beats (lines_of calls) (lines_of more) old mid new beats.run last beats.stop a b)
