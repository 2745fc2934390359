-- the first free slot is in memory once touched, exactly if one is free, and the one after it is first from then on
use Rattle.std.proofs.Common.{inl, inr, refl, ap, map, length, sym, subst, ◌∙◌, ◌+◌, ◌-◌, ◌<◌, ◌≤◌, ◌≡◌, Some, arith}
use Rattle.std.proofs.lemmas.Bool.{cases_lt}
use Rattle.std.proofs.lemmas.List.{length-append}
use Rattle.std.proofs.lemmas.Option.{slice_get_read}
use Rattle.xl_pool.specs.Pools.{IsVacant, live, with_value}
use Rattle.xl_pool.specs.Entries.{all_of, holding, link_of, seen, untouched}
use Rattle.xl_pool.proofs.Finding.{Updates-vacant, vacant_finds_nothing}
use Rattle.xl_pool.proofs.Soundness.{free_entry, has_room, is_full, link_at, seen_held, IsSound-held, one_more}
use Rattle.xl_pool.proofs.Untouched.{all_of-set, in_memory, kept_set, kept_touched, length-all}
use Rattle.xl_pool.proofs.pool.Pool.take.Goals as goal

pub hold-self-inside-requires : goal.hold-self-inside-requires
hold-self-inside-requires g c =
    let old = c.self.inside.entries.items in
    let entries = c.touch.new.entries.items in
    let slots = c.self.inside.slots in
    let kept = kept_touched old entries slots _ _ _ _ c.self.invariant c.touch.ensures.same c.touch.ensures.room (omega (arith, c.touch.ensures.more, c.self.inside.entries.ok.0, c.touch.new.entries.ok.0)) (omega (arith, c.touch.ensures.within, c.touch.new.entries.ok.0)) in
    let e = c.in-Some.entry.now in
    let here : c.self.inside.free < length entries = omega (arith, c.in-Some.ensures.variant.0 refl, c.touch.new.entries.ok.0) in
    let all = all_of entries slots in
    let below : c.self.inside.free < length all = omega (arith, here, length-append entries (untouched (length entries) (slots - length entries))) in
    let entry = free_entry all _ _ e kept.sound below (in_memory entries slots _ e here c.in-Some.ensures.value) in
    record { free = entry.free }

pub invariant_of-self : goal.invariant_of-self
invariant_of-self g c =
    let old = c.self.inside.entries.items in
    let entries = c.touch.new.entries.items in
    let slots = c.self.inside.slots in
    let kept = kept_touched old entries slots _ _ _ _ c.self.invariant c.touch.ensures.same c.touch.ensures.room (omega (arith, c.touch.ensures.more, c.self.inside.entries.ok.0, c.touch.new.entries.ok.0)) (omega (arith, c.touch.ensures.within, c.touch.new.entries.ok.0)) in
    kept

pub invariant_of-self-2 : goal.invariant_of-self-2
invariant_of-self-2 g c =
    let old = c.self.inside.entries.items in
    let entries = c.touch.new.entries.items in
    let slots = c.self.inside.slots in
    let kept = kept_touched old entries slots _ _ _ _ c.self.invariant c.touch.ensures.same c.touch.ensures.room (omega (arith, c.touch.ensures.more, c.self.inside.entries.ok.0, c.touch.new.entries.ok.0)) (omega (arith, c.touch.ensures.within, c.touch.new.entries.ok.0)) in
    let e = c.in-Some.entry.now in
    let here : c.self.inside.free < length entries = omega (arith, c.in-Some.ensures.variant.0 refl, c.touch.new.entries.ok.0) in
    let all = all_of entries slots in
    let below : c.self.inside.free < length all = omega (arith, here, length-append entries (untouched (length entries) (slots - length entries))) in
    let entry = free_entry all _ _ e kept.sound below (in_memory entries slots _ e here c.in-Some.ensures.value) in
    let leads : (next : _) → link_of (holding c.args.value e) ≡ Some next → next ≤ length entries = λ next none. absurd (cc) in
    let reached = kept.leads c.self.inside.free c.hold-self-inside.result (link_at entries c.self.inside.free e (slice_get_read entries (length entries) c.self.inside.free e refl here c.in-Some.ensures.value) ∙ c.hold-self-inside.ensures.next) in
    rw c.hold-self-inside.ensures.held
    (kept_set entries slots _ c.self.inside.free (holding c.args.value e) _ _ _ _ kept here leads reached
    (IsSound-held all _ _ _ e c.args.value kept.sound entry.stands c.hold-self-inside.ensures.next))

pub returns-in_default-clause-full : goal.returns-in_default-clause-full
returns-in_default-clause-full g c =
    let old = c.self.inside.entries.items in
    let entries = c.touch.new.entries.items in
    let slots = c.self.inside.slots in
    let kept = kept_touched old entries slots _ _ _ _ c.self.invariant c.touch.ensures.same c.touch.ensures.room (omega (arith, c.touch.ensures.more, c.self.inside.entries.ok.0, c.touch.new.entries.ok.0)) (omega (arith, c.touch.ensures.within, c.touch.new.entries.ok.0)) in
    let all = all_of entries slots in
    let past : length entries ≤ c.self.inside.free = c.in_default.ensures.item.3 in
    let as_many : length all ≡ slots = length-all entries slots kept.within in
    let beyond : length all ≤ c.self.inside.free = elim (cases_lt c.self.inside.free slots) [
      | inl below ↦ absurd (let reached = c.touch.ensures.reached below in omega (arith, reached, past, c.touch.new.entries.ok.0))
      | inr there ↦ omega (arith, there, as_many)
    ] in
    let same : live c.args.self.now ≡ length c.args.self.now = rw (← c.self.view_is) (subst (λ es. live (map seen es) ≡ length (map seen es)) c.touch.ensures.same (is_full all _ _ kept.sound beyond)) in
    (λ _. same, λ _. refl)

pub returns-in_default-clause-room : goal.returns-in_default-clause-room
returns-in_default-clause-room g c =
    let full = returns-in_default-clause-full g c in
    let as_many = full.0 refl in
    (λ e. absurd (cc), λ below. absurd (omega (arith, as_many, below)))

pub returns-clause-vacant : goal.returns-clause-vacant
returns-clause-vacant g c =
    let old = c.self.inside.entries.items in
    let entries = c.touch.new.entries.items in
    let slots = c.self.inside.slots in
    let kept = kept_touched old entries slots _ _ _ _ c.self.invariant c.touch.ensures.same c.touch.ensures.room (omega (arith, c.touch.ensures.more, c.self.inside.entries.ok.0, c.touch.new.entries.ok.0)) (omega (arith, c.touch.ensures.within, c.touch.new.entries.ok.0)) in
    let e = c.in-Some.entry.now in
    let here : c.self.inside.free < length entries = omega (arith, c.in-Some.ensures.variant.0 refl, c.touch.new.entries.ok.0) in
    let all = all_of entries slots in
    let below : c.self.inside.free < length all = omega (arith, here, length-append entries (untouched (length entries) (slots - length entries))) in
    let entry = free_entry all _ _ e kept.sound below (in_memory entries slots _ e here c.in-Some.ensures.value) in
    rw (← c.self.view_is) (subst (λ es. IsVacant (map seen es) (record { slot = c.self.inside.free; generation = e.generation })) c.touch.ensures.same entry.vacant)

pub returns-clause-fresh : goal.returns-clause-fresh
returns-clause-fresh g c = vacant_finds_nothing _ _ (returns-clause-vacant g c)

pub returns-clause-room : goal.returns-clause-room
returns-clause-room g c =
    let old = c.self.inside.entries.items in
    let entries = c.touch.new.entries.items in
    let slots = c.self.inside.slots in
    let kept = kept_touched old entries slots _ _ _ _ c.self.invariant c.touch.ensures.same c.touch.ensures.room (omega (arith, c.touch.ensures.more, c.self.inside.entries.ok.0, c.touch.new.entries.ok.0)) (omega (arith, c.touch.ensures.within, c.touch.new.entries.ok.0)) in
    let e = c.in-Some.entry.now in
    let here : c.self.inside.free < length entries = omega (arith, c.in-Some.ensures.variant.0 refl, c.touch.new.entries.ok.0) in
    let all = all_of entries slots in
    let below : c.self.inside.free < length all = omega (arith, here, length-append entries (untouched (length entries) (slots - length entries))) in
    let entry = free_entry all _ _ e kept.sound below (in_memory entries slots _ e here c.in-Some.ensures.value) in
    let room : live c.args.self.now < length c.args.self.now = rw (← c.self.view_is) (subst (λ es. live (map seen es) < length (map seen es)) c.touch.ensures.same (has_room all _ _ kept.sound below)) in
    (λ _. room, λ _. refl)

pub returns-clause-full : goal.returns-clause-full
returns-clause-full g c =
    let room = (returns-clause-room g c).0 refl in
    (λ e. absurd (cc), λ same. absurd (omega (arith, room, same)))

pub returns-clause-added : goal.returns-clause-added
returns-clause-added g c =
    let old = c.self.inside.entries.items in
    let entries = c.touch.new.entries.items in
    let slots = c.self.inside.slots in
    let kept = kept_touched old entries slots _ _ _ _ c.self.invariant c.touch.ensures.same c.touch.ensures.room (omega (arith, c.touch.ensures.more, c.self.inside.entries.ok.0, c.touch.new.entries.ok.0)) (omega (arith, c.touch.ensures.within, c.touch.new.entries.ok.0)) in
    let e = c.in-Some.entry.now in
    let here : c.self.inside.free < length entries = omega (arith, c.in-Some.ensures.variant.0 refl, c.touch.new.entries.ok.0) in
    let all = all_of entries slots in
    let below : c.self.inside.free < length all = omega (arith, here, length-append entries (untouched (length entries) (slots - length entries))) in
    let entry = free_entry all _ _ e kept.sound below (in_memory entries slots _ e here c.in-Some.ensures.value) in
    rw (← c.self.view_is, c.hold-self-inside.ensures.held)
    (ap (λ es. map seen es) (all_of-set entries slots c.self.inside.free (holding c.args.value e) here)
    ∙ (seen_held all (record { slot = c.self.inside.free; generation = e.generation }) e c.args.value refl ∙ ap (λ es. with_value (map seen es) (record { slot = c.self.inside.free; generation = e.generation }) c.args.value) c.touch.ensures.same))

pub returns-clause-names : goal.returns-clause-names
returns-clause-names g c = rw (returns-clause-added g c) (Updates-vacant _ _ c.args.value (returns-clause-vacant g c))

pub returns-clause-more : goal.returns-clause-more
returns-clause-more g c =
    let old = c.self.inside.entries.items in
    let entries = c.touch.new.entries.items in
    let slots = c.self.inside.slots in
    let kept = kept_touched old entries slots _ _ _ _ c.self.invariant c.touch.ensures.same c.touch.ensures.room (omega (arith, c.touch.ensures.more, c.self.inside.entries.ok.0, c.touch.new.entries.ok.0)) (omega (arith, c.touch.ensures.within, c.touch.new.entries.ok.0)) in
    let e = c.in-Some.entry.now in
    let here : c.self.inside.free < length entries = omega (arith, c.in-Some.ensures.variant.0 refl, c.touch.new.entries.ok.0) in
    let all = all_of entries slots in
    let below : c.self.inside.free < length all = omega (arith, here, length-append entries (untouched (length entries) (slots - length entries))) in
    let entry = free_entry all _ _ e kept.sound below (in_memory entries slots _ e here c.in-Some.ensures.value) in
    rw (← c.self.view_is, c.hold-self-inside.ensures.held)
    (ap (λ es. live (map seen es)) (all_of-set entries slots c.self.inside.free (holding c.args.value e) here)
    ∙ (one_more all c.self.inside.free _ e c.args.value entry.stands c.hold-self-inside.ensures.next ∙ ap (λ es. live (map seen es) + 1) c.touch.ensures.same))
