-- A broadcast: what is pushed waits for each of its readers, as if each had a queue of its own. Source: this profile.
use Rattle.std.specs.Prelude.{◌≡◌, ℕ, ◌+◌, ◌-◌, ◌<◌, ◌≤◌, ◌==◌, ◌⊎◌, ◌^◌, min, List, [], length, map, set, get_or, if◌then◌else◌}
use Rattle.circular_buffer.specs.Buffer.{keep_last}
use Rattle.xl_queues.specs.declared.broadcast.Reader.{Reader}
use Rattle.xl_queues.specs.Accounts.{Accounts, IsAccounted}
use Rattle.xl_queues.specs.Queues.{Backlog, no_items, with_item}

module _ {T : Type 0} where
  -- what waits for a reader
  abbrev pub queue_of : List (Backlog T) → ℕ → Backlog T
  queue_of queues reader = get_or queues reader no_items

  -- the queues with one reader's changed
  abbrev pub at_reader : List (Backlog T) → ℕ → (Backlog T → Backlog T) → List (Backlog T)
  at_reader queues reader change = set queues reader (change (queue_of queues reader))

  -- the new item comes last for every reader, and if there are n already the oldest goes
  abbrev pub pushed_to_all : ℕ → List (Backlog T) → T → List (Backlog T)
  pushed_to_all n queues item = map (λ q. with_item n q item) queues

  -- what waits for a reader when this many items were pushed, of which the last n are held: those that it hasn't read
  abbrev pub waiting_for : ℕ → List T → ℕ → Reader → Backlog T
  waiting_for n items pushed r = record {
    items = keep_last (pushed - r.read) items;
    lost = min (r.lost + (pushed - r.read - n)) (2 ^ 64 - 1);
  }

  -- a reader's queue with this many of its last items, and this count of lost ones
  abbrev pub left_with : ℕ → ℕ → Backlog T → Backlog T
  left_with left lost q = record { items = keep_last left q.items; lost = lost }

  -- no item for any reader, and these for one reader alone
  abbrev pub no_reader : ℕ → List T
  no_reader k = []

  abbrev pub one_reader : ℕ → List T → ℕ → List T
  one_reader reader items k = if k == reader then items else []

  -- For each reader all is accounted for after the call as it was before, with these items pushed for all readers and
  -- these taken by each
  abbrev pub AccountsForAll : List (Backlog T) → List (Backlog T) → List T → (ℕ → List T) → Type 0
  AccountsForAll old new pushed taken =
      (reader : ℕ) → reader < length old → Accounts (queue_of old reader) (queue_of new reader) pushed (taken reader)

  -- nothing was pushed yet, for any reader
  abbrev pub AreAccounted : List (Backlog T) → Type 0
  AreAccounted queues = (reader : ℕ) → reader < length queues → IsAccounted [] [] (queue_of queues reader)

-- a reader isn't ahead, and what it hasn't read is held, unless there are n items already
pub record KeepsUp (n held pushed : ℕ) (r : Reader) : Type 0 where
  pub behind : r.read ≤ pushed
  pub kept : (pushed - r.read ≤ held) ⊎ (held ≡ n)

-- a reader when n items count as pushed, those that it has behind it having been counted as lost
abbrev pub counted_anew : ℕ → ℕ → Reader → Reader
counted_anew n pushed r = record {
  read = n - min n (pushed - r.read);
  lost = min (r.lost + (pushed - r.read - n)) (2 ^ 64 - 1);
}
