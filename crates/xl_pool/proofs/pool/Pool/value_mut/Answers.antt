-- a name that finds a value has its slot in memory, and a value written anew changes no count and no free slot
use Rattle.std.proofs.Common.{refl, ap, map, sym, ◌∙◌, arith}
use Rattle.xl_pool.specs.Entries.{all_of, holding, seen}
use Rattle.xl_pool.proofs.Soundness.{found_entry, seen_held, IsSound-rewritten}
use Rattle.xl_pool.proofs.Untouched.{all_of-set, found_in_memory, in_memory, kept_set}
use Rattle.xl_pool.proofs.pool.Pool.value_mut.Goals as goal

pub index_mut-entry-requires : goal.index_mut-entry-requires
index_mut-entry-requires g c = let here = found_in_memory c.self.inside.entries.items c.self.inside.slots c.args.name (rw (← c.self.view_is) at c.requires.live) in omega (arith, here, c.self.inside.entries.ok.0)

pub value_mut-requires : goal.value_mut-requires
value_mut-requires g c =
    let entries = c.self.inside.entries.items in
    let found = rw (← c.self.view_is) at c.requires.live in
    let e = c.index_mut-entry.result.now in
    let entry = found_entry (all_of entries c.self.inside.slots) c.args.name e found (in_memory entries c.self.inside.slots c.args.name.slot e (found_in_memory entries c.self.inside.slots c.args.name found) c.index_mut-entry.ensures.value) in
    record { held = entry.held }

pub invariant_of-self-lent : goal.invariant_of-self-lent
invariant_of-self-lent g c w =
    let entries = c.self.inside.entries.items in
    let found = rw (← c.self.view_is) at c.requires.live in
    let e = c.index_mut-entry.result.now in
    let here = found_in_memory entries c.self.inside.slots c.args.name found in
    let entry = found_entry (all_of entries c.self.inside.slots) c.args.name e found (in_memory entries c.self.inside.slots c.args.name.slot e here c.index_mut-entry.ensures.value) in
    kept_set entries c.self.inside.slots _ c.args.name.slot (holding w e) _ _ _ _ c.self.invariant here (λ next none. absurd (cc)) c.self.invariant.reached
    (IsSound-rewritten (all_of entries c.self.inside.slots) _ _ c.args.name.slot e w c.self.invariant.sound entry.stands entry.held)

pub returns : goal.returns
returns g c =
    let entries = c.self.inside.entries.items in
    let found = rw (← c.self.view_is) at c.requires.live in
    let e = c.index_mut-entry.result.now in
    let here = found_in_memory entries c.self.inside.slots c.args.name found in
    let entry = found_entry (all_of entries c.self.inside.slots) c.args.name e found (in_memory entries c.self.inside.slots c.args.name.slot e here c.index_mut-entry.ensures.value) in (
      (
        refl {a = c.value_mut.result.ghost_name},
        λ w. rw (← c.self.view_is)
            (ap (λ es. map seen es) (all_of-set entries c.self.inside.slots c.args.name.slot (holding w e) here) ∙ seen_held (all_of entries c.self.inside.slots) c.args.name e w entry.generation),
      ),
      record { writes_back = tt; value = rw (← c.self.view_is) (entry.finds ∙ c.value_mut.ensures.value) },
    )
