-- What each change of one slot leaves of the count and of the free list.
use Rattle.std.proofs.Common.{◌≡◌, ℕ, zero, suc, ◌+◌, ◌-◌, ◌%◌, ◌^◌, ◌<◌, ◌≤◌, List, length, map, get_or, set, slice_get, Option, Some, None, is_some, IsSome, refl, sym, ap, subst, ◌∙◌, arith, length-set}
use Rattle.std.proofs.lemmas.Bool.{true≢false}
use Rattle.std.proofs.lemmas.List.{map-set, length-map, get_or-map, set-get_or}
use Rattle.std.proofs.lemmas.Option.{slice_get_within, slice_get_read, get_or_from_slice_get}
use Rattle.xl_pool.specs.Pools.{empty_slot, slot_at, get, live, with_value, without_value, IsVacant}
use Rattle.xl_pool.specs.Entries.{IsFreeList, value_of, next_of, link_of, seen, holding, freed, IsSound}
use Rattle.xl_pool.specs.declared.entry.Entry.{Entry}
use Rattle.xl_pool.specs.declared.entry.Content.{Content}
use Rattle.xl_pool.specs.declared.entry.Content.TheVariants.{Free, Held}
use Rattle.xl_pool.proofs.Counting.{counts, live-set}
use Rattle.xl_pool.specs.declared.name.Name.{Name}
use Rattle.xl_pool.proofs.Finding.{given, given_own, of_found, found_within}
use Rattle.xl_pool.proofs.FreeLists.{linked_within, without_first, with_first}

module _ {T : Type 0} where
  -- a slot with a value leads to no free one, and is counted
  held_leads_nowhere : (content : Content T) → IsSome (value_of content) → next_of content ≡ None
  held_leads_nowhere (Free next) some = absurd (true≢false (sym some))
  held_leads_nowhere (Held value) some = refl

  counts_held : (content : Content T) → IsSome (value_of content) → counts (value_of content) ≡ 1
  counts_held (Free next) some = absurd (true≢false (sym some))
  counts_held (Held value) some = refl

  -- a free slot has no value
  free_has_no_value : (content : Content T) → IsSome (next_of content) → value_of content ≡ None
  free_has_no_value (Free next) some = refl
  free_has_no_value (Held value) some = absurd (true≢false (sym some))

  -- what a contract sees of a slot that is there
  seen_at : (entries : List (Entry T)) (slot : ℕ) (e : Entry T) → slice_get entries slot ≡ Some e → slot_at (map seen entries) slot ≡ seen e
  seen_at entries slot e found =
      get_or-map seen entries slot e empty_slot (slice_get_within entries slot e found) ∙ ap seen (get_or_from_slice_get entries slot e e found)

  -- the link of a slot that is there
  pub link_at : (entries : List (Entry T)) (slot : ℕ) (e : Entry T) → slice_get entries slot ≡ Some e → get_or (map link_of entries) slot None ≡ link_of e
  link_at entries slot e found =
      get_or-map link_of entries slot e None (slice_get_within entries slot e found) ∙ ap link_of (get_or_from_slice_get entries slot e e found)

  -- how many slots have a value after one was written
  live_after : (entries : List (Entry T)) (slot : ℕ) (old new : Entry T) → slice_get entries slot ≡ Some old → live (map seen (set entries slot new)) + counts (value_of old.content) ≡ live (map seen entries) + counts (value_of new.content)
  live_after entries slot old new found =
      let within = slice_get_within entries slot old found in
      let counted = live-set (map seen entries) slot (seen new) (omega (arith, length-map entries seen)) in
      let read : counts (slot_at (map seen entries) slot).value ≡ counts (value_of old.content) = ap (λ s. counts s.value) (seen_at entries slot old found) in
      let written : live (map seen (set entries slot new)) ≡ live (set (map seen entries) slot (seen new)) = ap live (map-set seen entries slot new) in
      ap (λ n. n + counts (value_of old.content)) written ∙ ap (λ n. live (set (map seen entries) slot (seen new)) + n) (sym read) ∙ counted

  -- what a contract sees of a slot that was written
  pub seen_held : (entries : List (Entry T)) (name : Name) (e : Entry T) (value : T) → e.generation ≡ name.generation → map seen (set entries name.slot (holding value e)) ≡ with_value (map seen entries) name value
  seen_held entries name e value own =
      map-set seen entries name.slot (holding value e) ∙ ap (λ g. set (map seen entries) name.slot (record { generation = g; value = Some value })) own

  pub seen_freed : (entries : List (Entry T)) (name : Name) (e : Entry T) (next : ℕ) → e.generation ≡ name.generation → map seen (set entries name.slot (freed next e)) ≡ without_value (map seen entries) name
  seen_freed entries name e next own =
      map-set seen entries name.slot (freed next e) ∙ ap (λ g. set (map seen entries) name.slot (record { generation = (g + 1) % 2 ^ 32; value = None })) own

  -- the first free slot, where it is there, is free
  first_is_free : (entries : List (Entry T)) (count first : ℕ) (e : Entry T) → IsSound entries count first → slice_get entries first ≡ Some e → IsSome (next_of e.content)
  first_is_free entries count first e sound found = by_count sound.frees sound.linked
    where
      by_count : (n : ℕ) → IsFreeList (map link_of entries) n first → IsSome (next_of e.content)
      by_count zero p = absurd (omega (arith, slice_get_within entries first e found, length-map entries link_of))
      by_count (suc n) p = let link = sym (link_at entries first e found) ∙ p.1 in rw link refl

  -- a free slot, and its entry
  pub record FreeEntry (entries : List (Entry T)) (slot : ℕ) (e : Entry T) : Type 0 where
    pub stands : slice_get entries slot ≡ Some e
    pub free : IsSome (next_of e.content)
    pub vacant : IsVacant (map seen entries) (record { slot = slot; generation = e.generation })

  pub free_entry : (entries : List (Entry T)) (count first : ℕ) (e : Entry T) → IsSound entries count first → first < length entries → e ≡ get_or entries first e → FreeEntry entries first e
  free_entry entries count first e sound within read =
      let stands : slice_get entries first ≡ Some e = slice_get_read entries (length entries) first e refl within read in
      let free = first_is_free entries count first e sound stands in
      let empty : seen e ≡ record { generation = e.generation; value = None } = ap (λ v. record { generation = e.generation; value = v }) (free_has_no_value e.content free) in
      record { stands = stands; free = free; vacant = (omega (arith, length-map entries seen), seen_at entries first e stands ∙ empty) }

  -- the first free slot takes a value, and the one after it is then the first
  pub IsSound-held : (entries : List (Entry T)) (count first next : ℕ) (e : Entry T) (value : T) → IsSound entries count first → slice_get entries first ≡ Some e → next_of e.content ≡ Some next → IsSound (set entries first (holding value e)) (count + 1) next
  IsSound-held entries count first next e value sound found free = by_count sound.frees sound.total sound.linked
    where
      by_count : (n : ℕ) → count + n ≡ length entries → IsFreeList (map link_of entries) n first → IsSound (set entries first (holding value e)) (count + 1) next
      by_count zero total p = absurd (omega (arith, slice_get_within entries first e found, length-map entries link_of))
      by_count (suc n) total p =
          let one_more = live_after entries first e (holding value e) found in
          let was_free : counts (value_of e.content) ≡ 0 = ap counts (free_has_no_value e.content (ap is_some free)) in
          record {
            counted = omega (arith, sound.counted);
            frees = n;
            total = omega (arith, length-set entries first (holding value e));
            linked = rw (map-set link_of entries first (holding value e)) (without_first (map link_of entries) n first next (link_at entries first e found ∙ free) p);
            fits = omega (arith, sound.fits, length-set entries first (holding value e));
          }

  -- a slot gives its value up, and is then the first free one
  pub IsSound-freed : (entries : List (Entry T)) (count first slot : ℕ) (e : Entry T) → IsSound entries count first → slice_get entries slot ≡ Some e → IsSome (value_of e.content) → IsSound (set entries slot (freed first e)) (count - 1) slot
  IsSound-freed entries count first slot e sound found held =
      let one_less = live_after entries slot e (freed first e) found in
      let was_held = counts_held e.content held in
      let within = slice_get_within entries slot e found in
      let IsList : List (Option ℕ) → Type 0 = λ links. IsFreeList links (suc sound.frees) slot in
      record {
        counted = omega (arith, sound.counted);
        frees = suc sound.frees;
        total = omega (arith, sound.total, sound.counted, length-set entries slot (freed first e));
        linked = subst IsList (sym (map-set link_of entries slot (freed first e))) (with_first (map link_of entries) sound.frees first slot (omega (arith, length-map entries link_of)) (link_at entries slot e found ∙ held_leads_nowhere e.content held) sound.linked);
        fits = omega (arith, sound.fits, length-set entries slot (freed first e));
      }

  -- one slot more has a value
  pub one_more : (entries : List (Entry T)) (slot next : ℕ) (e : Entry T) (value : T) → slice_get entries slot ≡ Some e → next_of e.content ≡ Some next → live (map seen (set entries slot (holding value e))) ≡ live (map seen entries) + 1
  one_more entries slot next e value found free =
      let more = live_after entries slot e (holding value e) found in
      let was_free : counts (value_of e.content) ≡ 0 = ap counts (free_has_no_value e.content (ap is_some free)) in
      omega arith

  -- one slot fewer has a value
  pub one_fewer : (entries : List (Entry T)) (count first slot : ℕ) (e : Entry T) → IsSound entries count first → slice_get entries slot ≡ Some e → IsSome (value_of e.content) → live (map seen (set entries slot (freed first e))) + 1 ≡ live (map seen entries)
  one_fewer entries count first slot e sound found held =
      let one_less = live_after entries slot e (freed first e) found in
      let was_held = counts_held e.content held in
      omega arith

  -- a value is written anew
  pub IsSound-rewritten : (entries : List (Entry T)) (count first slot : ℕ) (e : Entry T) (value : T) → IsSound entries count first → slice_get entries slot ≡ Some e → IsSome (value_of e.content) → IsSound (set entries slot (holding value e)) count first
  IsSound-rewritten entries count first slot e value sound found held =
      let as_many = live_after entries slot e (holding value e) found in
      let was_held = counts_held e.content held in
      let link : get_or (map link_of entries) slot None ≡ None = link_at entries slot e found ∙ held_leads_nowhere e.content held in
      let same : set (map link_of entries) slot None ≡ map link_of entries = ap (λ o. set (map link_of entries) slot o) (sym link) ∙ set-get_or (map link_of entries) slot None in
      record {
        counted = omega (arith, sound.counted);
        frees = sound.frees;
        total = omega (arith, sound.total, length-set entries slot (holding value e));
        linked = rw (map-set link_of entries slot (holding value e), same) sound.linked;
        fits = omega (arith, sound.fits, length-set entries slot (holding value e));
      }

  -- a name that finds a value, and the entry of its slot
  pub record FoundEntry (entries : List (Entry T)) (name : Name) (e : Entry T) : Type 0 where
    pub stands : slice_get entries name.slot ≡ Some e
    pub generation : e.generation ≡ name.generation
    pub held : IsSome (value_of e.content)
    pub finds : get (map seen entries) name ≡ value_of e.content

  pub found_entry : (entries : List (Entry T)) (name : Name) (e : Entry T) → IsSome (get (map seen entries) name) → e ≡ get_or entries name.slot e → FoundEntry entries name e
  found_entry entries name e found read =
      let within : name.slot < length entries = omega (arith, found_within (map seen entries) name found, length-map entries seen) in
      let stands : slice_get entries name.slot ≡ Some e = slice_get_read entries (length entries) name.slot e refl within read in
      let shown = seen_at entries name.slot e stands in
      let gives : get (map seen entries) name ≡ given (seen e) name.generation = ap (λ s. given s name.generation) shown in
      let own = of_found (seen e) name.generation (subst IsSome gives found) in
      record { stands = stands; generation = own.0; held = own.1; finds = gives ∙ given_own (seen e) name.generation own.0 }

  -- a first free slot that is there leaves room, and one that isn't leaves none
  pub has_room : (entries : List (Entry T)) (count first : ℕ) → IsSound entries count first → first < length entries → live (map seen entries) < length (map seen entries)
  has_room entries count first sound below = by_count sound.frees sound.total sound.linked
    where
      by_count : (n : ℕ) → count + n ≡ length entries → IsFreeList (map link_of entries) n first → live (map seen entries) < length (map seen entries)
      by_count zero total p = absurd (omega (arith, p, below, length-map entries link_of))
      by_count (suc n) total p = omega (arith, total, sound.counted, length-map entries seen)

  pub is_full : (entries : List (Entry T)) (count first : ℕ) → IsSound entries count first → length entries ≤ first → live (map seen entries) ≡ length (map seen entries)
  is_full entries count first sound past = by_count sound.frees sound.total sound.linked
    where
      by_count : (n : ℕ) → count + n ≡ length entries → IsFreeList (map link_of entries) n first → live (map seen entries) ≡ length (map seen entries)
      by_count zero total p = omega (arith, total, sound.counted, length-map entries seen)
      by_count (suc n) total p = absurd (let within = linked_within (map link_of entries) first p.0 p.1 in omega (arith, within, past, length-map entries link_of))
