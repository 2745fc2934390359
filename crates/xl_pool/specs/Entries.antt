-- How a pool's slots lie in memory, with the list of the free ones inside them.
-- Source: what the code of this crate keeps. No public clause cites this file.
use Rattle.std.specs.Prelude.{◌≡◌, ℕ, zero, suc, ◌+◌, ◌-◌, ◌%◌, ◌^◌, ◌<◌, ◌≤◌, List, [], ◌∷◌, ◌++◌, map, length, Option, Some, None, slice_index_or}
use Rattle.xl_pool.specs.Pools.{Slot, live}
use Rattle.xl_pool.specs.declared.entry.Entry.{Entry}
use Rattle.xl_pool.specs.declared.entry.Content.{Content}
use Rattle.xl_pool.specs.declared.entry.Content.TheVariants.{Free, Held}

-- from this slot on this many free slots each lead to the next, and the last one to the end
abbrev pub IsFreeList : List (Option ℕ) → ℕ → ℕ → Type 0
IsFreeList links zero slot = slot ≡ length links
IsFreeList links (suc count) slot =
    (next : ℕ) × (slice_index_or links slot None ≡ Some next) × IsFreeList links count next

module _ {T : Type 0} where
  -- the value, if there is one
  abbrev pub value_of : Content T → Option T
  value_of (Free _) = None
  value_of (Held value) = Some value

  -- the free slot after a free one
  abbrev pub next_of : Content T → Option ℕ
  next_of (Free next) = Some next
  next_of (Held _) = None

  abbrev pub link_of : Entry T → Option ℕ
  link_of entry = next_of entry.content

  -- what a contract sees of an entry
  abbrev pub seen : Entry T → Slot T
  seen entry = record { generation = entry.generation; value = value_of entry.content }

  -- the entry that holds the value
  abbrev pub holding : T → Entry T → Entry T
  holding value entry = record { generation = entry.generation; content = Held value }

  -- the entry that is free, of the next generation
  abbrev pub freed : ℕ → Entry T → Entry T
  freed next entry = record { generation = (entry.generation + 1) % 2 ^ 32; content = Free next }

  -- the live slots are counted, and the list from the first free slot has all others
  pub record IsSound (entries : List (Entry T)) (count first : ℕ) : Type 0 where
    pub counted : count ≡ live (map seen entries)
    pub frees : ℕ
    pub total : count + frees ≡ length entries
    pub linked : IsFreeList (map link_of entries) frees first
    pub fits : length entries < 2 ^ 32

  -- so many slots from this one on in which no value was ever held: each leads to the next
  abbrev pub untouched : ℕ → ℕ → List (Entry T)
  untouched slot zero = []
  untouched slot (suc count) = record { generation = 0; content = Free (slot + 1) } ∷ untouched (slot + 1) count

  -- all slots of a pool: those that lie in memory, and the untouched ones after them
  abbrev pub all_of : List (Entry T) → ℕ → List (Entry T)
  all_of entries slots = entries ++ untouched (length entries) (slots - length entries)

  -- the slots are sound, those in memory have room to become all, and no free one leads beyond the first untouched
  pub record IsKept (entries : List (Entry T)) (slots room count first : ℕ) : Type 0 where
    pub sound : IsSound (all_of entries slots) count first
    pub within : length entries ≤ slots
    pub fits : slots ≤ room
    pub reached : first ≤ length entries
    pub leads : (slot next : ℕ) → slice_index_or (map link_of entries) slot None ≡ Some next → next ≤ length entries
