-- What a recorder is handed of a journal, as it comes. Source: write-ahead logs (Gray and Reuter, 1993); this project's own.
use Rattle.std.specs.Prelude.{◌≡◌, ℕ, ◌+◌, Bool, false, List, [], ◌∷◌, length, take, slice_get, Some, None, if◌then◌else◌}
use Rattle.std.specs.List.{flat_map}
use Rattle.std.specs.Option.{option_to_list}
use Rattle.std.specs.declared.option.Option.{Option}
use Rattle.xl_turns.specs.Places.{all_below}
use Rattle.xl_store.specs.declared.entry.Entry.{Entry}
use Rattle.xl_store.specs.declared.retention.Batch.{Batch}
use Rattle.xl_store.specs.declared.retention.Retention.{Retention}
use Rattle.xl_store.specs.Retentions.{handed_on, takes_reports}

-- whether reports are taken by the entry that stands there
abbrev pub takes_in : Option Entry → Bool
takes_in None = false
takes_in (Some e) = takes_reports e.event

-- what the entry at a place of a history hands on: the entries since reports were taken before
abbrev pub batch_at : Retention → List Entry → ℕ → List Batch
batch_at retention history place =
    if takes_in (slice_get history place) then option_to_list (handed_on retention (take (place + 1) history)) else []

-- and the entries at all of these
abbrev pub batches_at : Retention → List Entry → List ℕ → List Batch
batches_at retention history places = flat_map (batch_at retention history) places

-- all that is handed on over a history
abbrev pub all_batches : Retention → List Entry → List Batch
all_batches retention history = batches_at retention history (all_below (length history))

module _ {R : Type 0} (records : R → Batch → R → Type 0) where
  -- a recorder was handed these, one after the other
  abbrev pub Records : List Batch → R → R → Type 0
  Records [] old new = new ≡ old
  Records (batch ∷ batches) old new = (mid : R) × records old batch mid × Records batches mid new

  -- the same, if there is one
  abbrev pub RecordsIf : List Batch → Option R → Option R → Type 0
  RecordsIf batches None new = new ≡ None
  RecordsIf batches (Some old) None = ⊥
  RecordsIf batches (Some old) (Some new) = Records batches old new
