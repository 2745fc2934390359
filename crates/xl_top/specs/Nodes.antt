-- What the status of `node` says of its run. Source: this project's own.
use Rattle.std.specs.Prelude.{◌≡◌, ◌≢◌, ◌⊎◌, ℕ, Bool, List, IfSome}
use Rattle.std.specs.declared.option.Option.{Option}
use Rattle.xl_base.specs.declared.status.Status.{Status}
use Rattle.xl_base.specs.declared.status.Status.TheVariants as status
use Rattle.xl_store.specs.declared.entry.Entry.{Entry}
use Rattle.xl_validator.specs.Ends.{AreSubmits, CompletesAt, EndsByTime, EndsFull, HasBeats, HasRunSo}

-- quiet: no call of the source, the sink, the keeper, the hub or the boards failed
pub record EndsSo (input : Option (List ℕ)) (may_give : ℕ → Bool) (quiet : Type 0)
    (ended : Status) (journal : Option (List Entry)) : Type 0 where
  -- 0: the run has an end, which its last timer reached
  pub done : ended ≡ status.Done → HasRunSo EndsByTime input may_give journal
  -- 9: the history has as many entries as the settings allow
  pub full : ended ≡ status.StoreFull → HasRunSo EndsFull input may_give journal
  -- 8: all ids were submitted, and nothing else happened
  pub submits : ended ≡ status.NetFault → HasRunSo (AreSubmits may_give) input may_give journal
  -- the timers are those of whole beats, of which only the last may be cut short
  pub beats : IfSome journal (λ _. HasRunSo HasBeats input may_give journal)
  -- refused settings end a quiet run so, and others by time, unless turns or memory ran out
  pub complete : quiet → ended ≢ status.StoreFull → CompletesAt input may_give ended ⊎ (ended ≡ status.OutOfMemory)
