-- What the heartbeat and the workers leave, as the one pass tells it into which theirs were joined.
-- Source: what the code of this crate relies on. No public clause cites this file.
use Rattle.std.specs.Prelude.{◌≡◌, ℕ, Option, ◌+◌, ◌≤◌, List, [], ◌∷◌, length}
use Rattle.std.specs.List.{AllByRecursion}
use mathlib.Core.List.{IsPrefix}
use Rattle.xl_base.specs.declared.ids.TxId.{TxId}
use Rattle.xl_turns.specs.declared.view.Knowledge.{Knowledge}
use Rattle.xl_turns.specs.declared.pass.Pass.{Pass}
use Rattle.xl_turns.specs.Knowing.{all_shares}
use Rattle.xl_turns.specs.Places.{all_below}
use Rattle.xl_turns.specs.Passes.{known}
use Rattle.xl_core.specs.declared.report.Report.{Report}
use Rattle.xl_core.specs.Core.{Core}
use Rattle.xl_store.specs.declared.entry.Entry.{Entry}
use Rattle.xl_store.specs.declared.store.StoreEnd.{StoreEnd}
use Rattle.xl_store.specs.declared.store.StoreEnd.TheVariants as refused
use Rattle.xl_store.specs.declared.retention.Batch.{Batch}
use Rattle.xl_store.specs.declared.retention.Retention.{Retention}
use Rattle.xl_store.specs.Calls.{Call, Made}
use Rattle.xl_store.specs.Recording.{RecordsIf, all_batches}
use Rattle.xl_heartbeat.specs.declared.pulse.Pulse.{Pulse}
use Rattle.xl_heartbeat.specs.declared.ends.BeatEnd.{BeatEnd}
use Rattle.xl_heartbeat.specs.declared.ends.Ending.{Ending}
use Rattle.xl_heartbeat.specs.declared.ends.Ending.TheVariants as ending
use Rattle.xl_heartbeat.specs.Outputs.{Output, IsWritten}
use Rattle.xl_heartbeat.specs.Beats.{IsFull, lines_of, taking_calls}
use Rattle.xl_workers.specs.declared.ends.RunEnd.{RunEnd}
use Rattle.xl_workers.specs.declared.ends.RunEnd.TheVariants as end
use Rattle.xl_workers.specs.declared.linking.NoLinks.{NoLinks}
use Rattle.xl_workers.specs.declared.linking.NoLinks.TheVariants as unlinked
use Rattle.xl_workers.specs.declared.worker.Worker.{Worker}
use Rattle.xl_workers.specs.Pairing.{Paired, total}
use Rattle.xl_workers.specs.Serving.{share_of, IsFresh}
use Rattle.xl_workers.specs.Sharing.{Setting, BeatPart, DoorIf, ServePart, merge_all}
use Rattle.xl_workers.specs.Runs.{Doing, EndsBy, IsAsked, NodeRun}

module _ {L : Type 0} where
  -- all shares are there, and only the first pass may have places
  pub record AreAll (one heart gate : Pass Entry) (workers : List (Worker L)) : Type 0 where
    pub shares : (known one).share + (known heart).share + (known gate).share + total share_of workers ≡ all_shares
    pub idle : (known heart).mine ≡ []
    pub quiet : (known gate).mine ≡ []
    pub fresh : AllByRecursion IsFresh workers

-- the store is closed with this history by who has this pass
pub record Closes (turns : ℕ) (k : Knowledge Entry) (history : List Entry) : Type 0 where
  pub begins : IsPrefix k.seen history
  pub drawn : k.drawn ≤ length history
  pub limit : length history ≤ turns

-- A whole pass came back, with the places of the heartbeat, of the porter and of the workers beside the old ones
pub record Worked (s : Setting) (pulse : Pulse) (door : Option (List ℕ)) (members : List ℕ)
    (old : Knowledge Entry) (old_output : Output) (end : BeatEnd) (new : Knowledge Entry) (new_output : Output)
    : Type 0 where
  pub calls : List Call
  pub beat : List ℕ
  pub gate : List ℕ
  pub parts : List (List ℕ)
  pub share : new.share ≡ all_shares
  pub begins : IsPrefix old.seen new.seen
  pub mine : new.mine ≡ merge_all old.mine (beat ∷ gate ∷ parts)
  pub written : IsWritten end.run (lines_of calls) old_output new_output
  pub beating : (history : List Entry) → Closes s.turns new history → BeatPart s pulse history end calls beat
  pub attending : (history : List Entry) → Closes s.turns new history → DoorIf s door history gate
  pub serving : (history : List Entry) → Closes s.turns new history → Paired (ServePart s history) members parts

-- if a write's fault had ended the heartbeat nothing more was written
abbrev pub IsWrittenAfter : Ending → Ending → List ℕ → Output → Output → Type 0
IsWrittenAfter ending.WriteFault end text old new = new ≡ old
IsWrittenAfter other end text old new = IsWritten end text old new

-- a pass took the last reports after a heartbeat that ended so
pub record TookLast (start : Core) (turns : ℕ) (beats : Ending)
    (old : Knowledge Entry) (old_output : Output) (end : Ending) (new : Knowledge Entry) (new_output : Output)
    : Type 0 where
  pub handed : List Report
  pub made : Made start old new (taking_calls end handed)
  pub drawn : old.drawn ≤ new.drawn
  pub full : IsFull turns new.drawn end
  pub written : IsWrittenAfter beats end (lines_of (taking_calls end handed)) old_output new_output

-- a whole pass came back, and what it says of the run when the store is closed, whose submits have the old places
pub record Lives (s : Setting) (d : Doing) (done : List TxId) (end : RunEnd) (old new : Knowledge Entry)
    : Type 0 where
  pub share : new.share ≡ all_shares
  pub begins : IsPrefix old.seen new.seen
  pub asked : IsAsked d end
  pub by : (history : List Entry) → Closes s.turns new history → new.mine ≡ all_below (length history)
      → EndsBy s d history done old.mine end

-- the same of the whole run
pub record Lived (s : Setting) (d : Doing) (end : RunEnd) (new : Knowledge Entry) : Type 0 where
  pub share : new.share ≡ all_shares
  pub run : (history : List Entry) → Closes s.turns new history → new.mine ≡ all_below (length history)
      → NodeRun s d end history

-- the recorder, if there is one, was handed all that such a store hands on over the history with which who has this pass
-- closes it
abbrev pub RecordsAll : {R : Type 0} → (R → Batch → R → Type 0) → Retention → ℕ → Knowledge Entry → Option R → Option R
    → Type 0
RecordsAll records retention turns k old new =
    (history : List Entry) → Closes turns k history → k.mine ≡ all_below (length history)
    → RecordsIf records (all_batches retention history) old new

-- how a run ends that has no turn for a submit
abbrev pub end_of : StoreEnd → RunEnd
end_of refused.OutOfMemory = end.OutOfMemory
end_of (refused.StoreFull n) = end.StoreFull n

-- how a run ends that has no links
abbrev pub end_without : NoLinks → RunEnd
end_without (unlinked.LinkFault member) = end.LinkFault member
end_without unlinked.OutOfMemory = end.OutOfMemory
