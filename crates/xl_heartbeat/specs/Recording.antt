-- What a pass hands on of a journal as its calls come. Source: write-ahead logs (Gray and Reuter, 1993); this project's own.
use Rattle.std.specs.Prelude.{List}
use Rattle.std.specs.declared.option.Option.{Option}
use Rattle.xl_turns.specs.declared.view.Knowledge.{Knowledge}
use Rattle.xl_core.specs.Core.{Core}
use Rattle.xl_store.specs.declared.entry.Entry.{Entry}
use Rattle.xl_store.specs.declared.retention.Batch.{Batch}
use Rattle.xl_store.specs.declared.retention.Retention.{Retention}
use Rattle.xl_store.specs.Calls.{Call, Made}
use Rattle.xl_store.specs.Recording.{RecordsIf, batches_at}

-- A pass made these calls, and the recorder, if there is one, was handed what their entries hand on, in order, and nothing
-- else
pub record Recorded {R : Type 0} (records : R → Batch → R → Type 0) (retention : Retention) (start : Core)
    (old new : Knowledge Entry) (before after : Option R) : Type 0 where
  pub calls : List Call
  pub made : Made start old new calls
  pub handed : RecordsIf records (batches_at retention new.seen made.places) before after
