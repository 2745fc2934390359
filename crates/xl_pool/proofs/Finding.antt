-- What names find after one slot was written, for this crate and its callers.
use Rattle.std.proofs.Common.{◌≡◌, ◌≢◌, ℕ, ◌+◌, ◌%◌, ◌^◌, ◌<◌, ◌==◌, cond, List, length, get_or, set, Option, Some, None, IsSome, refl, sym, ap, subst, ◌∙◌, inl, inr, arith}
use Rattle.std.proofs.lemmas.Bool.{cases_eq, cond_both, true≢false}
use Rattle.std.proofs.lemmas.List.{get_or-set_same, get_or-set_other, get_or_past}
use Rattle.std.proofs.lemmas.Bool.Decides.{nat_tests}
use Rattle.xl_pool.specs.Pools.{Slot, empty_slot, slot_at, get, IsVacant, Updates, with_value, without_value}
use Rattle.xl_pool.specs.declared.name.Name.{Name}

same_name : (a b : Name) → a.slot ≡ b.slot → a.generation ≡ b.generation → a ≡ b
same_name a b slot generation =
    let first : a ≡ record { slot = b.slot; generation = a.generation } = ap (λ s. record { slot = s; generation = a.generation }) slot in
    first ∙ ap (λ g. record { slot = b.slot; generation = g }) generation

module _ {T : Type 0} where
  -- what a slot gives a name of this generation
  abbrev pub given : Slot T → ℕ → Option T
  given slot generation = cond (slot.generation == generation) slot.value None

  -- an empty slot gives nothing, another one its value to its own generation alone
  pub given_empty : (slot : Slot T) (generation : ℕ) → slot.value ≡ None → given slot generation ≡ None
  given_empty slot generation empty = cond_both (slot.generation == generation) slot.value None (λ v. v ≡ None) (λ _. empty) (λ _. refl)

  pub given_own : (slot : Slot T) (generation : ℕ) → slot.generation ≡ generation → given slot generation ≡ slot.value
  given_own slot generation same = cond_both (slot.generation == generation) slot.value None (λ v. v ≡ slot.value) (λ _. refl) (λ no. absurd (grind (arith, nat_tests)))

  pub given_other : (slot : Slot T) (generation : ℕ) → slot.generation ≢ generation → given slot generation ≡ None
  given_other slot generation differs = cond_both (slot.generation == generation) slot.value None (λ v. v ≡ None) (λ yes. absurd (differs (grind (arith, nat_tests)))) (λ _. refl)

  -- a name that finds a value has its slot's generation
  pub of_found : (slot : Slot T) (generation : ℕ) → IsSome (given slot generation) → (slot.generation ≡ generation) × IsSome slot.value
  of_found slot generation = cond_both (slot.generation == generation) slot.value None (λ v. IsSome v → (slot.generation ≡ generation) × IsSome slot.value) (λ yes some. (grind (arith, nat_tests), some)) (λ _ some. absurd (true≢false (sym some)))

  -- a name that finds a value has a slot that is there
  pub found_within : (pool : List (Slot T)) (name : Name) → IsSome (get pool name) → name.slot < length pool
  found_within pool name found =
      let some = (of_found (slot_at pool name.slot) name.generation found).1 in
      grind (arith, get_or_past)

  -- a write at the slot of a name, after which the names of its other generations find what they found
  Updates-set : (pool : List (Slot T)) (name : Name) (new : Slot T) → name.slot < length pool → ((g : ℕ) → name.generation ≢ g → given new g ≡ given (slot_at pool name.slot) g) → Updates pool (set pool name.slot new) name (given new name.generation)
  Updates-set pool name new within alike =
      let written = get_or-set_same pool name.slot new empty_slot within in
      let others : (other : Name) → other ≢ name → get (set pool name.slot new) other ≡ get pool other =
      λ other differs. elim (cases_eq other.slot name.slot) [
        | inr elsewhere ↦ ap (λ s. given s other.generation) (get_or-set_other pool name.slot other.slot new empty_slot elsewhere)
        | inl same ↦
            let older : name.generation ≢ other.generation = λ e. differs (same_name other name same (sym e)) in
            ap (λ k. given (get_or (set pool name.slot new) k empty_slot) other.generation) same
            ∙ ap (λ s. given s other.generation) written
            ∙ alike other.generation older
            ∙ ap (λ k. given (slot_at pool k) other.generation) (sym same)
      ] in
      record { changed = ap (λ s. given s name.generation) written; others = others }

  -- an empty slot's name finds nothing
  pub vacant_finds_nothing : (pool : List (Slot T)) (name : Name) → IsVacant pool name → get pool name ≡ None
  vacant_finds_nothing pool name vacant = given_empty _ name.generation (ap (λ s. s.value) vacant.1)

  -- an empty slot takes a value
  pub Updates-vacant : (pool : List (Slot T)) (name : Name) (value : T) → IsVacant pool name → Updates pool (with_value pool name value) name (Some value)
  Updates-vacant pool name value vacant =
      let new : Slot T = record { generation = name.generation; value = Some value } in
      let empty : (slot_at pool name.slot).value ≡ None = ap (λ s. s.value) vacant.1 in
      let alike : (g : ℕ) → name.generation ≢ g → given new g ≡ given (slot_at pool name.slot) g = λ g older. given_other new g older ∙ sym (given_empty _ g empty) in
      subst (Updates pool (with_value pool name value) name) (given_own new name.generation refl) (Updates-set pool name new vacant.0 alike)

  -- a slot's value is written anew
  pub Updates-found : (pool : List (Slot T)) (name : Name) (value : T) → IsSome (get pool name) → Updates pool (with_value pool name value) name (Some value)
  Updates-found pool name value found =
      let own = of_found (slot_at pool name.slot) name.generation found in
      let new : Slot T = record { generation = name.generation; value = Some value } in
      let alike : (g : ℕ) → name.generation ≢ g → given new g ≡ given (slot_at pool name.slot) g = λ g older. given_other new g older ∙ sym (given_other _ g (λ e. older (sym own.0 ∙ e))) in
      subst (Updates pool (with_value pool name value) name) (given_own new name.generation refl) (Updates-set pool name new (found_within pool name found) alike)

  -- a slot gives its value up
  pub Updates-without_value : (pool : List (Slot T)) (name : Name) → IsSome (get pool name) → Updates pool (without_value pool name) name None
  Updates-without_value pool name found =
      let own = of_found (slot_at pool name.slot) name.generation found in
      let new : Slot T = record { generation = (name.generation + 1) % 2 ^ 32; value = None } in
      let alike : (g : ℕ) → name.generation ≢ g → given new g ≡ given (slot_at pool name.slot) g = λ g older. given_empty new g refl ∙ sym (given_other _ g (λ e. older (sym own.0 ∙ e))) in
      subst (Updates pool (without_value pool name) name) (given_empty new name.generation refl) (Updates-set pool name new (found_within pool name found) alike)
