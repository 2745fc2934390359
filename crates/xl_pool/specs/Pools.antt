-- Pools: a finite map from names to values, with one generation a slot. Source: the generational indices of slot maps.
use Rattle.std.specs.Prelude.{◌≡◌, ◌≢◌, ℕ, ◌+◌, ◌%◌, ◌^◌, ◌<◌, ◌==◌, List, length, Option, Some, None, is_some, count_by, slice_index_or, slice_set, if◌then◌else◌, refl}
use Rattle.std.specs.Coded.{Coded, code_by, coded×, coded_ℕ, coded_option}
use Rattle.xl_pool.specs.declared.name.Name.{Name}

-- a slot: its generation, and its value or nothing. A pool is the list of its slots
pub record Slot (T : Type 0) : Type 0 where
  pub generation : ℕ
  pub value : Option T

-- a slot is stored as the pair of its fields
abbrev pub slot_code : {T : Type 0} → Coded T → Coded (Slot T)
slot_code {T} code =
    code_by
    (ℕ × Option T)
    (coded× coded_ℕ (coded_option code))
    (λ s. (s.generation, s.value))
    (λ p. record { generation = p.0; value = p.1 })
    (λ _. refl)

module _ {T : Type 0} where
  -- a slot as a pool is made, and what is read of a slot that isn't there
  abbrev pub empty_slot : Slot T
  empty_slot = record { generation = 0; value = None }

  -- the slot of a number
  abbrev pub slot_at : List (Slot T) → ℕ → Slot T
  slot_at pool slot = slice_index_or pool slot empty_slot

  -- a slot's generation, 0 for a slot that isn't there
  abbrev pub generation_of : List (Slot T) → ℕ → ℕ
  generation_of pool slot = (slot_at pool slot).generation

  -- the value of a name: that of its slot, if the slot is of the name's generation
  abbrev pub get : List (Slot T) → Name → Option T
  get pool name = if generation_of pool name.slot == name.generation then (slot_at pool name.slot).value else None

  -- how many slots have a value
  abbrev pub live : List (Slot T) → ℕ
  live pool = count_by (λ s. is_some s.value) pool

  -- the name is that of a slot which is there and empty
  abbrev pub IsVacant : List (Slot T) → Name → Type 0
  IsVacant pool name =
      (name.slot < length pool) × (slot_at pool name.slot ≡ record { generation = name.generation; value = None })

  -- the name has the value, and each other slot stays
  abbrev pub with_value : List (Slot T) → Name → T → List (Slot T)
  with_value pool name value = slice_set pool name.slot (record { generation = name.generation; value = Some value })

  -- the slot of the name is empty, and its generation is the name's and one, modulo 2^32
  abbrev pub without_value : List (Slot T) → Name → List (Slot T)
  without_value pool name =
      slice_set pool name.slot (record { generation = (name.generation + 1) % 2 ^ 32; value = None })

  -- the new pool finds this under the name, and under every other name what it found
  pub record Updates (old new : List (Slot T)) (name : Name) (value : Option T) : Type 0 where
    pub changed : get new name ≡ value
    pub others : (other : Name) → other ≢ name → get new other ≡ get old other
