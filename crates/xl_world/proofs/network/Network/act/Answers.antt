use Rattle.std.proofs.Common.{rules, ◌≡◌, ◌++◌, ◌∙◌, List, None, ap, append-nil, set, subst, sym}
use Rattle.std.specs.Prelude.{◌==◌, OnOk, position}
use Rattle.xl_core.specs.declared.event.CoreEvent.{CoreEvent}
use Rattle.xl_world.specs.declared.outcome.Outcome.{Outcome}
use Rattle.xl_world.specs.declared.place.Place.{Place}
use Rattle.xl_world.specs.Disk.{answer_of}
use Rattle.xl_world.specs.Seen.{deed_event}
use Rattle.xl_world.specs.World.{World}
use Rattle.xl_world.specs.Worlds.{network_seen}
use Rattle.xl_world.proofs.Acted.{IsActed, IsFound, found_in, absent, absent_ran, absent_told, acted_ran, acted_rest, acted_told, found_acted, found_may, found_place}
use Rattle.xl_world.proofs.Seated.{found_seat}
use Rattle.xl_world.proofs.Acting.{deed_unsent}
use Rattle.xl_world.proofs.Growing.{grows_from}
use Rattle.xl_world.proofs.network.Network.act.Goals as goal
use Rattle.xl_world.proofs.network.Network.act.Goals.{After-happens}

abbrev event : After-happens → CoreEvent
event c = deed_event c.args.i c.args.deed.now

-- the places after it
abbrev after : After-happens → List Place
after c = set c.self.inside.places.items c.in-Some.k c.happens.new.self

found : (c : After-happens) → IsFound c.args.self.now (network_seen c.self.inside) c.args.i c.in-Some.k c.index_mut-place.result.now
found c = found_in c.args.self.now (network_seen c.self.inside) c.args.i c.in-Some.k c.index_mut-place.result.now c.deref.result.now c.self.view_is c.in-Some.ensures c.deref.ensures.value c.index_mut-place.ensures.value

acted : (c : After-happens) → IsActed c.args.self.now c.args.i (event c) c.args.fate (after c) c.happens.new.answer
acted c = found_acted c.args.self.now (network_seen c.self.inside) c.args.i c.in-Some.k c.index_mut-place.result.now (λ m. deed_event m c.args.deed.now) c.args.fate c.happens.new.self c.happens.new.answer (found c) c.happens.ensures.place c.happens.ensures.answer

pub happens-requires-clause-rested : goal.happens-requires-clause-rested
happens-requires-clause-rested c =
    c.requires.rest.cores c.args.i _ (found_place c.args.self.now (network_seen c.self.inside) c.args.i c.in-Some.k c.index_mut-place.result.now (found_in c.args.self.now (network_seen c.self.inside) c.args.i c.in-Some.k c.index_mut-place.result.now c.deref.result.now c.self.view_is c.in-Some.ensures c.deref.ensures.value c.index_mut-place.ensures.value))

pub happens-requires-clause-may : goal.happens-requires-clause-may
happens-requires-clause-may c =
    found_may c.args.self.now (network_seen c.self.inside) c.args.i c.in-Some.k c.index_mut-place.result.now c.args.deed.now (found_in c.args.self.now (network_seen c.self.inside) c.args.i c.in-Some.k c.index_mut-place.result.now c.deref.result.now c.self.view_is c.in-Some.ensures c.deref.ensures.value c.index_mut-place.ensures.value) c.requires.may

pub settle-requires : goal.settle-requires
settle-requires c =
    let d = (goal.at.settle-requires c).After-happens in record {
      seat = found_seat c.args.self.now (network_seen c.self.inside) c.args.i d.in-Some.k d.index_mut-place.result.now (λ m. deed_event m c.args.deed.now) c.args.fate d.happens.new.self (found d) d.happens.ensures.place;
      rested = acted_rest c.args.self.now c.args.i (event d) c.args.fate (after d) c.happens.new.answer (acted d) c.requires.rest;
    }

pub returns-clause-world : goal.returns-clause-world
returns-clause-world c =
    let d = (goal.at.returns-clause-world c).After-happens in
    subst (λ (v : World). OnOk c.settle.result (c.settle.new.self ≡ v))
    (acted_ran c.args.self.now (network_seen c.self.inside) c.args.i (event d) c.args.fate (after d) c.happens.new.answer c.self.view_is (acted d)
    (λ p from. deed_unsent p.core c.args.i c.args.deed.now (answer_of p.disk c.args.fate) from))
    c.settle.ensures.world

pub returns-clause-told : goal.returns-clause-told
returns-clause-told c =
    let d = (goal.at.returns-clause-told c).After-happens in
    subst (λ (os : List Outcome). OnOk c.settle.result (c.settle.new.told.items ≡ c.args.told.now.items ++ os))
    (acted_told c.args.self.now c.args.i (event d) c.args.fate (after d) c.happens.new.answer (acted d)) c.settle.ensures.told

pub returns-clause-grows : goal.returns-clause-grows
returns-clause-grows c =
    let d = (goal.at.returns-clause-grows c).After-happens in
    grows_from c.args.self.now (network_seen c.self.inside) c.settle.new.self (after d) c.self.view_is c.settle.ensures.grows

-- nobody has the number
pub returns-in_default-clause-world : goal.returns-in_default-clause-world
returns-in_default-clause-world c =
    let none : position (λ p. p.core.node.me == c.args.i) c.deref.result.now ≡ None = search rules in
    absent_ran c.args.self.now c.args.i (deed_event c.args.i c.args.deed.now) c.args.fate (absent c.args.self.now (network_seen c.self.inside) c.args.i c.deref.result.now c.self.view_is none c.deref.ensures.value)

pub returns-in_default-clause-told : goal.returns-in_default-clause-told
returns-in_default-clause-told c =
    let none : position (λ p. p.core.node.me == c.args.i) c.deref.result.now ≡ None = search rules in
    let told : List Outcome = c.args.told.now.items in
    sym (append-nil told)
    ∙ ap (λ (os : List Outcome). told ++ os)
    (sym (absent_told c.args.self.now c.args.i (deed_event c.args.i c.args.deed.now) c.args.fate (absent c.args.self.now (network_seen c.self.inside) c.args.i c.deref.result.now c.self.view_is none c.deref.ensures.value)))
