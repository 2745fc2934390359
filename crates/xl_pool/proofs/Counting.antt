-- How many slots have a value, after a write, for this crate and its callers.
use Rattle.std.proofs.Common.{◌≡◌, ℕ, ◌+◌, ◌<◌, List, length, get_or, set, cond, is_some, Option, Some, IsSome, ap, arith}
use Rattle.std.proofs.lemmas.List.Sums.{sum_by-set}
use Rattle.xl_pool.specs.Pools.{Slot, empty_slot, slot_at, get, live, with_value}
use Rattle.xl_pool.specs.declared.name.Name.{Name}
use Rattle.xl_pool.proofs.Finding.{of_found, found_within}

-- what a slot adds to the live ones
abbrev pub counts : {T : Type 0} → Option T → ℕ
counts value = cond (is_some value) 1 0

-- a write changes the count by what the slot counted and what it counts now
pub live-set : {T : Type 0} (pool : List (Slot T)) (slot : ℕ) (new : Slot T) → slot < length pool → live (set pool slot new) + counts (get_or pool slot empty_slot).value ≡ live pool + counts new.value
live-set pool slot new within = sum_by-set (λ s. counts s.value) pool slot new empty_slot within

-- a value that is written anew is counted as before
pub live-found : {T : Type 0} (pool : List (Slot T)) (name : Name) (value : T) → IsSome (get pool name) → live (with_value pool name value) ≡ live pool
live-found pool name value found =
    let held : IsSome (slot_at pool name.slot).value = (of_found (slot_at pool name.slot) name.generation found).1 in
    let counted = live-set pool name.slot (record { generation = name.generation; value = Some value }) (found_within pool name found) in
    let was_held : counts (slot_at pool name.slot).value ≡ 1 = ap (λ b. cond b 1 0) held in
    omega arith
