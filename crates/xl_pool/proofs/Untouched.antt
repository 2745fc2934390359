-- Slots that lie in memory, and the untouched ones after them.
use Rattle.std.proofs.Common.{◌≡◌, ◌≢◌, ℕ, zero, suc, ◌+◌, ◌-◌, ◌^◌, ◌<◌, ◌≤◌, List, [], ◌∷◌, ◌++◌, length, map, replicate, get_or, set, Option, Some, None, IsSome, refl, sym, ap, subst, ◌∙◌, inl, inr, arith, append_assoc, length-set}
use Rattle.std.proofs.lemmas.Bool.{cases_eq, cases_lt, true≢false}
use Rattle.std.proofs.lemmas.List.{get_or-append-add, get_or-map, get_or_append_left, get_or-set_other, get_or-set_same, length-append, length-map, map-append, map-set, set-append_left}
use Rattle.xl_pool.specs.Pools.{empty_slot, generation_of, get, live, slot_at}
use Rattle.xl_pool.specs.declared.name.Name.{Name}
use Rattle.xl_pool.specs.Entries.{IsKept, IsSound, all_of, link_of, seen, untouched}
use Rattle.xl_pool.specs.declared.entry.Entry.{Entry}
use Rattle.xl_pool.specs.declared.entry.Content.TheVariants.{Free}
use Rattle.xl_pool.proofs.Finding.{given, given_empty, given_other}
use Rattle.xl_pool.proofs.FreeLists.{in_order, linked_within}

pub length-untouched : (T : Type 0) (slot count : ℕ) → length (untouched {T = T} slot count) ≡ count
length-untouched T slot zero = refl
length-untouched T slot (suc count) = ap suc (length-untouched T (slot + 1) count)

-- what a contract sees of untouched slots
pub seen-untouched : (T : Type 0) (slot count : ℕ) → map seen (untouched {T = T} slot count) ≡ replicate count empty_slot
seen-untouched T slot zero = refl
seen-untouched T slot (suc count) = ap (λ rest. empty_slot ∷ rest) (seen-untouched T (slot + 1) count)

-- untouched slots lead each to the next
pub untouched_links : (T : Type 0) (slot count i : ℕ) → i < count → get_or (map link_of (untouched {T = T} slot count)) i None ≡ Some (slot + i + 1)
untouched_links T slot zero i within = absurd (omega (arith, within))
untouched_links T slot (suc count) zero within = ap (λ n. Some n) (omega arith)
untouched_links T slot (suc count) (suc i) within = untouched_links T (slot + 1) count i (omega (arith, within)) ∙ ap (λ n. Some n) (omega arith)

empty_everywhere : (T : Type 0) (n k : ℕ) → get_or (replicate n (empty_slot {T = T})) k empty_slot ≡ empty_slot
empty_everywhere T zero k = refl
empty_everywhere T (suc n) zero = refl
empty_everywhere T (suc n) (suc k) = empty_everywhere T n k

none_live : (T : Type 0) (n : ℕ) → live (replicate n (empty_slot {T = T})) ≡ 0
none_live T zero = refl
none_live T (suc n) = none_live T n

module _ {T : Type 0} where
  -- an untouched slot before the slot of a number
  abbrev pub untouched_entry : ℕ → Entry T
  untouched_entry slot = record { generation = 0; content = Free (slot + 1) }

  -- the one that is laid into memory next
  pub all_of-more : (entries : List (Entry T)) (slots : ℕ) → length entries < slots → all_of (entries ++ untouched_entry (length entries) ∷ []) slots ≡ all_of entries slots
  all_of-more entries slots below =
      let longer : length (entries ++ untouched_entry (length entries) ∷ []) ≡ length entries + 1 = length-append entries (untouched_entry (length entries) ∷ []) in
      let fewer : slots - length entries ≡ suc (slots - (length entries + 1)) = omega (arith, below) in
      append_assoc entries (untouched_entry (length entries) ∷ []) _
      ∙ (ap (λ n. entries ++ untouched_entry (length entries) ∷ untouched n (slots - n)) longer
      ∙ ap (λ n. entries ++ untouched (length entries) n) (sym fewer))

  -- a slot in memory is written
  pub all_of-set : (entries : List (Entry T)) (slots slot : ℕ) (e : Entry T) → slot < length entries → all_of (set entries slot e) slots ≡ set (all_of entries slots) slot e
  all_of-set entries slots slot e within =
      ap (λ n. set entries slot e ++ untouched n (slots - n)) (length-set entries slot e)
      ∙ sym (set-append_left entries (untouched (length entries) (slots - length entries)) slot e within)

  -- a slot in memory
  pub all_of-at : (entries : List (Entry T)) (slots slot : ℕ) (d : Entry T) → slot < length entries → get_or (all_of entries slots) slot d ≡ get_or entries slot d
  all_of-at entries slots slot d within = get_or_append_left entries (untouched (length entries) (slots - length entries)) d slot within

  -- behind the slots in memory each is empty
  pub behind : (entries : List (Entry T)) (slots slot : ℕ) → length entries ≤ slot → slot_at (map seen (all_of entries slots)) slot ≡ empty_slot
  behind entries slots slot past =
      let rest = untouched (length entries) (slots - length entries) in
      let as_behind : length (map seen entries) + (slot - length entries) ≡ slot = ap (λ n. n + (slot - length entries)) (length-map entries seen) ∙ omega (arith, past) in
      ap (λ xs. get_or xs slot empty_slot) (map-append seen entries rest)
      ∙ (ap (λ k. get_or (map seen entries ++ map seen rest) k empty_slot) (sym as_behind)
      ∙ (get_or-append-add (map seen entries) (map seen rest) (slot - length entries) empty_slot
      ∙ (ap (λ xs. get_or xs (slot - length entries) empty_slot) (seen-untouched T (length entries) (slots - length entries))
      ∙ empty_everywhere T (slots - length entries) (slot - length entries))))

  pub nothing_behind : (entries : List (Entry T)) (slots : ℕ) (name : Name) → length entries ≤ name.slot → get (map seen (all_of entries slots)) name ≡ None
  nothing_behind entries slots name past = ap (λ s. given s name.generation) (behind entries slots name.slot past) ∙ given_empty empty_slot name.generation refl

  pub generation_behind : (entries : List (Entry T)) (slots slot : ℕ) → length entries ≤ slot → generation_of (map seen (all_of entries slots)) slot ≡ 0
  generation_behind entries slots slot past = ap (λ s. s.generation) (behind entries slots slot past)

  -- a new pool
  pub all_of-new : (slots : ℕ) → all_of {T = T} [] slots ≡ untouched 0 slots
  all_of-new slots = let none : slots - 0 ≡ slots = omega arith in ap (λ n. untouched 0 n) none

  sound_new : (slots : ℕ) → slots < 2 ^ 32 → IsSound (untouched {T = T} 0 slots) 0 0
  sound_new slots small =
      let as_many : length (untouched {T = T} 0 slots) ≡ slots = length-untouched T 0 slots in
      let as_many_links : length (map link_of (untouched {T = T} 0 slots)) ≡ slots = length-map (untouched 0 slots) link_of ∙ as_many in
      record {
        counted = sym (ap live (seen-untouched T 0 slots) ∙ none_live T slots);
        frees = slots;
        total = omega (arith, as_many);
        linked = in_order (map link_of (untouched 0 slots)) slots 0 (λ i below. untouched_links T 0 slots i (omega (arith, below, as_many_links)) ∙ ap (λ n. Some n) (omega arith)) (omega (arith, as_many_links));
        fits = subst (λ n. n < 2 ^ 32) (sym as_many) small;
      }

  pub kept_new : (slots room : ℕ) → slots ≤ room → slots < 2 ^ 32 → IsKept {T = T} [] slots room 0 0
  kept_new slots room fits small = record {
    sound = subst (λ es. IsSound es 0 0) (sym (all_of-new slots)) (sound_new slots small);
    within = omega arith;
    fits = fits;
    reached = omega arith;
    leads = λ slot next e. absurd (cc);
  }

  -- a link of a slot in memory is that of all slots
  link_in_all : (entries : List (Entry T)) (slots slot : ℕ) → slot < length entries → get_or (map link_of (all_of entries slots)) slot None ≡ get_or (map link_of entries) slot None
  link_in_all entries slots slot within =
      let rest = untouched (length entries) (slots - length entries) in
      ap (λ ls. get_or ls slot None) (map-append link_of entries rest)
      ∙ get_or_append_left (map link_of entries) (map link_of rest) None slot (omega (arith, within, length-map entries link_of))

  link_behind : (entries : List (Entry T)) (slots slot : ℕ) → length entries ≤ slot → slot < slots → get_or (map link_of (all_of entries slots)) slot None ≡ Some (slot + 1)
  link_behind entries slots slot past below =
      let rest = untouched (length entries) (slots - length entries) in
      let as_behind : length (map link_of entries) + (slot - length entries) ≡ slot = ap (λ n. n + (slot - length entries)) (length-map entries link_of) ∙ omega (arith, past) in
      ap (λ ls. get_or ls slot None) (map-append link_of entries rest)
      ∙ (ap (λ k. get_or (map link_of entries ++ map link_of rest) k None) (sym as_behind)
      ∙ (get_or-append-add (map link_of entries) (map link_of rest) (slot - length entries) None
      ∙ (untouched_links T (length entries) (slots - length entries) (slot - length entries) (omega (arith, past, below)) ∙ ap (λ n. Some n) (omega (arith, past)))))

  -- one more slot may be laid into memory
  pub kept_touched : (old new : List (Entry T)) (slots room after count first : ℕ) → IsKept old slots room count first → all_of new slots ≡ all_of old slots → after ≡ room → length old ≤ length new → length new ≤ slots → IsKept new slots after count first
  kept_touched old new slots room after count first kept same as_much more within = record {
    sound = subst (λ es. IsSound es count first) (sym same) kept.sound;
    within = within;
    fits = omega (arith, kept.fits, as_much);
    reached = omega (arith, kept.reached, more);
    leads = λ slot next e. leads slot next e (linked_within (map link_of new) slot next e);
  }
    where
      leads : (slot next : ℕ) → get_or (map link_of new) slot None ≡ Some next → slot < length (map link_of new) → next ≤ length new
      leads slot next e there =
          let below : slot < length new = omega (arith, there, length-map new link_of) in
          let in_old : get_or (map link_of (all_of old slots)) slot None ≡ Some next = ap (λ es. get_or (map link_of es) slot None) (sym same) ∙ (link_in_all new slots slot below ∙ e) in
          elim (cases_lt slot (length old)) [
            | inl early ↦ let least = kept.leads slot next (sym (link_in_all old slots slot early) ∙ in_old) in omega (arith, least, more)
            | inr late ↦ let link : Some next ≡ Some (slot + 1) = sym in_old ∙ link_behind old slots slot late (omega (arith, below, within)) in let is : next ≡ slot + 1 = cc in omega (arith, is, below)
          ]

  -- a slot in memory is written, after which it leads no further than the slots in memory
  pub kept_set : (entries : List (Entry T)) (slots room slot : ℕ) (e : Entry T) (count first old_count old_first : ℕ) → IsKept entries slots room old_count old_first → slot < length entries →
      ((next : ℕ) → link_of e ≡ Some next → next ≤ length entries) → first ≤ length entries → IsSound (set (all_of entries slots) slot e) count first → IsKept (set entries slot e) slots room count first
  kept_set entries slots room slot e count first old_count old_first kept here leads_on reached sound =
      let same_length = length-set entries slot e in
      record {
        sound = subst (λ es. IsSound es count first) (sym (all_of-set entries slots slot e here)) sound;
        within = omega (arith, kept.within, same_length);
        fits = kept.fits;
        reached = omega (arith, reached, same_length);
        leads = λ k next at. leads k next (ap (λ ls. get_or ls k None) (sym (map-set link_of entries slot e)) ∙ at);
      }
    where
      leads : (k next : ℕ) → get_or (set (map link_of entries) slot (link_of e)) k None ≡ Some next → next ≤ length (set entries slot e)
      leads k next at =
          let same_length = length-set entries slot e in
          elim (cases_eq k slot) [
            | inl same ↦
                let link : link_of e ≡ Some next = sym (get_or-set_same (map link_of entries) slot (link_of e) None (omega (arith, here, length-map entries link_of))) ∙ (ap (λ n. get_or (set (map link_of entries) slot (link_of e)) n None) (sym same) ∙ at) in
                let least = leads_on next link in omega (arith, least, same_length)
            | inr other ↦ let least = kept.leads k next (sym (get_or-set_other (map link_of entries) slot k (link_of e) None other) ∙ at) in omega (arith, least, same_length)
          ]

  -- a name that finds a value has a slot in memory
  pub found_in_memory : (entries : List (Entry T)) (slots : ℕ) (name : Name) → IsSome (get (map seen (all_of entries slots)) name) → name.slot < length entries
  found_in_memory entries slots name found =
      elim (cases_lt name.slot (length entries)) [
        | inl below ↦ below
        | inr past ↦ absurd (true≢false (sym (subst IsSome (nothing_behind entries slots name past) found)))
      ]

  -- the entry of a slot in memory
  pub in_memory : (entries : List (Entry T)) (slots slot : ℕ) (e : Entry T) → slot < length entries → e ≡ get_or entries slot e → e ≡ get_or (all_of entries slots) slot e
  in_memory entries slots slot e here read = read ∙ sym (all_of-at entries slots slot e here)

  pub slot_in_memory : (entries : List (Entry T)) (slots slot : ℕ) (e : Entry T) → slot < length entries → e ≡ get_or entries slot e → slot_at (map seen (all_of entries slots)) slot ≡ seen e
  slot_in_memory entries slots slot e here read =
      let all = all_of entries slots in
      let there : slot < length all = omega (arith, here, length-append entries (untouched (length entries) (slots - length entries))) in
      get_or-map seen all slot e empty_slot there ∙ ap seen (sym (in_memory entries slots slot e here read))

  pub get_other : (entries : List (Entry T)) (slots : ℕ) (name : Name) (e : Entry T) → name.slot < length entries → e ≡ get_or entries name.slot e → e.generation ≢ name.generation → get (map seen (all_of entries slots)) name ≡ None
  get_other entries slots name e here read differs = ap (λ s. given s name.generation) (slot_in_memory entries slots name.slot e here read) ∙ given_other (seen e) name.generation differs

  pub length-all : (entries : List (Entry T)) (slots : ℕ) → length entries ≤ slots → length (all_of entries slots) ≡ slots
  length-all entries slots within =
      length-append entries (untouched (length entries) (slots - length entries))
      ∙ (ap (λ n. length entries + n) (length-untouched T (length entries) (slots - length entries)) ∙ omega (arith, within))
