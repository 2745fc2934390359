-- a name that finds a value has its slot in memory, which, once empty, leads to the slots that were free before
use Rattle.std.proofs.Common.{IsSome, is_some, map, sym, ap, ◌∙◌, ◌≤◌, ◌≡◌, Some, length, subst, arith}
use Rattle.xl_pool.specs.Pools.{get}
use Rattle.xl_pool.specs.Entries.{all_of, freed, link_of, seen}
use Rattle.xl_pool.proofs.Finding.{Updates-without_value}
use Rattle.xl_pool.proofs.Soundness.{found_entry, seen_freed, IsSound-freed, one_fewer}
use Rattle.xl_pool.proofs.Untouched.{all_of-set, found_in_memory, in_memory, kept_set}
use Rattle.xl_pool.proofs.pool.Pool.give.Goals as goal

pub index_mut-requires : goal.index_mut-requires
index_mut-requires g c =
    let found : IsSome (get c.args.self.now c.args.name) = ap is_some (sym c.get.ensures) ∙ grind arith in
    let here = found_in_memory c.self.inside.entries.items c.self.inside.slots c.args.name (rw (← c.self.view_is) at found) in
    omega (arith, here, c.self.inside.entries.ok.0)

pub free-value-requires : goal.free-value-requires
free-value-requires g c =
    let found : IsSome (get c.args.self.now c.args.name) = ap is_some (sym c.get.ensures) ∙ grind arith in
    let entries = c.self.inside.entries.items in
    let some = rw (← c.self.view_is) at found in
    let e = c.index_mut.result.now in
    let entry = found_entry (all_of entries c.self.inside.slots) c.args.name e some (in_memory entries c.self.inside.slots c.args.name.slot e (found_in_memory entries c.self.inside.slots c.args.name some) c.index_mut.ensures.value) in
    record { held = entry.held }

pub invariant_of-self : goal.invariant_of-self
invariant_of-self g c =
    let found : IsSome (get c.args.self.now c.args.name) = ap is_some (sym c.get.ensures) ∙ grind arith in
    let entries = c.self.inside.entries.items in
    let some = rw (← c.self.view_is) at found in
    let e = c.index_mut.result.now in
    let here = found_in_memory entries c.self.inside.slots c.args.name some in
    let entry = found_entry (all_of entries c.self.inside.slots) c.args.name e some (in_memory entries c.self.inside.slots c.args.name.slot e here c.index_mut.ensures.value) in
    let leads : (next : _) → link_of (freed c.self.inside.free e) ≡ Some next → next ≤ length entries = λ next link. let same : c.self.inside.free ≡ next = cc in subst (λ n. n ≤ length entries) same c.self.invariant.reached in
    rw c.free-value.ensures.freed
    (kept_set entries c.self.inside.slots _ c.args.name.slot (freed c.self.inside.free e) _ c.args.name.slot _ _ c.self.invariant here leads (omega (arith, here))
    (IsSound-freed (all_of entries c.self.inside.slots) _ _ c.args.name.slot e c.self.invariant.sound entry.stands entry.held))

pub returns-clause-removed : goal.returns-clause-removed
returns-clause-removed g c =
    let found : IsSome (get c.args.self.now c.args.name) = ap is_some (sym c.get.ensures) ∙ grind arith in
    let entries = c.self.inside.entries.items in
    let some = rw (← c.self.view_is) at found in
    let e = c.index_mut.result.now in
    let here = found_in_memory entries c.self.inside.slots c.args.name some in
    let entry = found_entry (all_of entries c.self.inside.slots) c.args.name e some (in_memory entries c.self.inside.slots c.args.name.slot e here c.index_mut.ensures.value) in
    rw (← c.self.view_is, c.free-value.ensures.freed)
    (ap (λ es. map seen es) (all_of-set entries c.self.inside.slots c.args.name.slot (freed c.self.inside.free e) here) ∙ seen_freed (all_of entries c.self.inside.slots) c.args.name e _ entry.generation)

pub returns-clause-names : goal.returns-clause-names
returns-clause-names g c =
    let found : IsSome (get c.args.self.now c.args.name) = ap is_some (sym c.get.ensures) ∙ grind arith in
    rw (returns-clause-removed g c) (Updates-without_value _ c.args.name found)

pub returns-clause-fewer : goal.returns-clause-fewer
returns-clause-fewer g c =
    let found : IsSome (get c.args.self.now c.args.name) = ap is_some (sym c.get.ensures) ∙ grind arith in
    let entries = c.self.inside.entries.items in
    let some = rw (← c.self.view_is) at found in
    let e = c.index_mut.result.now in
    let here = found_in_memory entries c.self.inside.slots c.args.name some in
    let entry = found_entry (all_of entries c.self.inside.slots) c.args.name e some (in_memory entries c.self.inside.slots c.args.name.slot e here c.index_mut.ensures.value) in
    rw (← c.self.view_is, c.free-value.ensures.freed, all_of-set entries c.self.inside.slots c.args.name.slot (freed c.self.inside.free e) here)
    (one_fewer (all_of entries c.self.inside.slots) _ _ c.args.name.slot e c.self.invariant.sound entry.stands entry.held)

pub returns-clause-given : goal.returns-clause-given
returns-clause-given g c =
    let found : IsSome (get c.args.self.now c.args.name) = ap is_some (sym c.get.ensures) ∙ grind arith in
    let entries = c.self.inside.entries.items in
    let some = rw (← c.self.view_is) at found in
    let e = c.index_mut.result.now in
    let entry = found_entry (all_of entries c.self.inside.slots) c.args.name e some (in_memory entries c.self.inside.slots c.args.name.slot e (found_in_memory entries c.self.inside.slots c.args.name some) c.index_mut.ensures.value) in
    rw (← c.self.view_is) (entry.finds ∙ c.free-value.ensures.value)
