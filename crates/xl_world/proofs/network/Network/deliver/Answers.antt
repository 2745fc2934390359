use Rattle.std.proofs.Common.{rules, ◌≡◌, ◌++◌, ◌∙◌, ℕ, List, Option, Some, None, ap, append-nil, arith, length, set, subst, sym}
use Rattle.std.specs.Prelude.{◌==◌, OnOk, position, slice_get}
use Rattle.xl_core.specs.declared.event.CoreEvent.{CoreEvent}
use Rattle.xl_core.specs.declared.event.CoreEvent.TheVariants.{Frame}
use Rattle.xl_world.specs.declared.outcome.Outcome.{Outcome}
use Rattle.xl_world.specs.declared.place.Fate.TheVariants.{Saved}
use Rattle.xl_world.specs.declared.place.Place.{Place}
use Rattle.xl_world.specs.Sending.{Sent}
use Rattle.xl_world.specs.Emptying.{event_steps}
use Rattle.xl_world.specs.Disk.{answer_of}
use Rattle.xl_world.specs.Schedule.{delivery_of, told_in}
use Rattle.xl_world.specs.Seen.{with_forged}
use Rattle.xl_world.specs.World.{World, place_at, run}
use Rattle.xl_world.proofs.Acted.{IsActed, IsFound, found_in, absent, absent_stays, absent_told, acted_ran, acted_rest, acted_told, found_acted, found_number, found_place}
use Rattle.xl_world.proofs.Seated.{found_seat}
use Rattle.xl_world.proofs.Acting.{sent_ran}
use Rattle.xl_world.proofs.CoreSteps.{frame_plain}
use Rattle.xl_world.proofs.Places.{found_within}
use Rattle.xl_world.specs.Worlds.{network_seen}
use Rattle.xl_world.proofs.Growing.{grows_from}
use Rattle.xl_world.proofs.network.Network.deliver.Goals as goal
use Rattle.xl_world.proofs.network.Network.deliver.Goals.{After-hears_sent}

abbrev event : After-hears_sent → CoreEvent
event c = Frame c.args.at c.in-Some.frame.bytes

-- the places after it
abbrev after : After-hears_sent → List Place
after c = set c.self.inside.places.items c.in-Some-seat_of.k c.hears_sent.new.self

-- the frame is the sent one
sent : (c : After-hears_sent) → slice_get c.args.self.now.sent c.args.place ≡ Some c.in-Some.frame
sent c = ap (λ (w : World). slice_get w.sent c.args.place) (sym c.self.view_is) ∙ sym c.in-Some.ensures

found : (c : After-hears_sent) → IsFound c.args.self.now (network_seen c.self.inside) c.to-to.result c.in-Some-seat_of.k c.index_mut-receiver.result.now
found c = found_in c.args.self.now (network_seen c.self.inside) c.to-to.result c.in-Some-seat_of.k c.index_mut-receiver.result.now c.deref.result.now c.self.view_is c.in-Some-seat_of.ensures c.deref.ensures.value c.index_mut-receiver.ensures.value

acted : (c : After-hears_sent) → IsActed c.args.self.now c.to-to.result (event c) Saved (after c) c.hears_sent.new.answer
acted c = found_acted c.args.self.now (network_seen c.self.inside) c.to-to.result c.in-Some-seat_of.k c.index_mut-receiver.result.now (λ m. event c) Saved c.hears_sent.new.self c.hears_sent.new.answer (found c) c.hears_sent.ensures.place c.hears_sent.ensures.answer

pub hears_sent-requires-clause-rested : goal.hears_sent-requires-clause-rested
hears_sent-requires-clause-rested c =
    c.requires.rest.cores c.to-to.result _ (found_place c.args.self.now (network_seen c.self.inside) c.to-to.result c.in-Some-seat_of.k c.index_mut-receiver.result.now (found_in c.args.self.now (network_seen c.self.inside) c.to-to.result c.in-Some-seat_of.k c.index_mut-receiver.result.now c.deref.result.now c.self.view_is c.in-Some-seat_of.ensures c.deref.ensures.value c.index_mut-receiver.ensures.value))

pub hears_sent-requires-clause-mine : goal.hears_sent-requires-clause-mine
hears_sent-requires-clause-mine c =
    sym c.to-to.ensures
    ∙ sym (found_number c.args.self.now (network_seen c.self.inside) c.to-to.result c.in-Some-seat_of.k c.index_mut-receiver.result.now (found_in c.args.self.now (network_seen c.self.inside) c.to-to.result c.in-Some-seat_of.k c.index_mut-receiver.result.now c.deref.result.now c.self.view_is c.in-Some-seat_of.ensures c.deref.ensures.value c.index_mut-receiver.ensures.value))

pub settle-requires : goal.settle-requires
settle-requires c =
    let d = (goal.at.settle-requires c).After-hears_sent in record {
      seat = found_seat c.args.self.now (network_seen c.self.inside) c.to-to.result d.in-Some-seat_of.k d.index_mut-receiver.result.now (λ m. event d) Saved d.hears_sent.new.self (found d) d.hears_sent.ensures.place;
      rested = acted_rest c.args.self.now c.to-to.result (event d) Saved (after d) c.hears_sent.new.answer (acted d) c.requires.rest;
    }

-- its delivery
delivered : (c : After-hears_sent) → event_steps c.args.self.now c.to-to.result (event c) Saved ≡ delivery_of c.args.self.now c.args.at (slice_get c.args.self.now.sent c.args.place)
delivered c = ap (λ (m : ℕ). event_steps c.args.self.now m (event c) Saved) c.to-to.ensures ∙ ap (delivery_of c.args.self.now c.args.at) (sym (sent c))

pub returns-clause-world : goal.returns-clause-world
returns-clause-world c =
    let d = (goal.at.returns-clause-world c).After-hears_sent in
    let w : World = c.args.self.now in
    let i : ℕ = c.to-to.result in
    subst (λ (v : World). OnOk c.settle.result (c.settle.new.self ≡ v))
    (acted_ran w (network_seen c.self.inside) i (event d) Saved (after d) c.hears_sent.new.answer c.self.view_is (acted d) (λ p from. (frame_plain p.core.node c.args.at c.in-Some.frame.bytes (answer_of p.disk Saved)).sent from)
    ∙ (ap (λ steps. with_forged w.forged (run w steps)) (delivered d ∙ ap (delivery_of w c.args.at) (sent d))
    ∙ (sent_ran w c.args.at c.in-Some.frame c.args.place (sent d) ∙ ap (λ (o : Option Sent). run w (delivery_of w c.args.at o)) (sym (sent d)))))
    c.settle.ensures.world

pub returns-clause-told : goal.returns-clause-told
returns-clause-told c =
    let d = (goal.at.returns-clause-told c).After-hears_sent in
    let w : World = c.args.self.now in
    subst (λ (os : List Outcome). OnOk c.settle.result (c.settle.new.told.items ≡ c.args.told.now.items ++ os))
    (acted_told w c.to-to.result (event d) Saved (after d) c.hears_sent.new.answer (acted d) ∙ ap (told_in w) (delivered d))
    c.settle.ensures.told

pub returns-clause-grows : goal.returns-clause-grows
returns-clause-grows c =
    let d = (goal.at.returns-clause-grows c).After-hears_sent in
    grows_from c.args.self.now (network_seen c.self.inside) c.settle.new.self (after d) c.self.view_is c.settle.ensures.grows

-- nobody has its receiver's number
pub returns-in_default-seat_of-clause-world : goal.returns-in_default-seat_of-clause-world
returns-in_default-seat_of-clause-world c =
    let w : World = c.args.self.now in
    let f : Sent = c.in-Some.frame in
    let is_sent : slice_get w.sent c.args.place ≡ Some f = ap (λ (w : World). slice_get w.sent c.args.place) (sym c.self.view_is) ∙ sym c.in-Some.ensures in
    let none : position (λ p. p.core.node.me == c.to-to.result) c.deref.result.now ≡ None = search rules in
    let nobody : place_at f.to w.places ≡ None =
    ap (λ (m : ℕ). place_at m w.places) (sym c.to-to.ensures) ∙ absent w (network_seen c.self.inside) c.to-to.result c.deref.result.now c.self.view_is none c.deref.ensures.value in
    absent_stays w f.to (Frame c.args.at f.bytes) Saved nobody ∙ ap (λ (o : Option Sent). run w (delivery_of w c.args.at o)) (sym is_sent)

pub returns-in_default-seat_of-clause-told : goal.returns-in_default-seat_of-clause-told
returns-in_default-seat_of-clause-told c =
    let w : World = c.args.self.now in
    let f : Sent = c.in-Some.frame in
    let told : List Outcome = c.args.told.now.items in
    let is_sent : slice_get w.sent c.args.place ≡ Some f = ap (λ (w : World). slice_get w.sent c.args.place) (sym c.self.view_is) ∙ sym c.in-Some.ensures in
    let none : position (λ p. p.core.node.me == c.to-to.result) c.deref.result.now ≡ None = search rules in
    let nobody : place_at f.to w.places ≡ None =
    ap (λ (m : ℕ). place_at m w.places) (sym c.to-to.ensures) ∙ absent w (network_seen c.self.inside) c.to-to.result c.deref.result.now c.self.view_is none c.deref.ensures.value in
    sym (append-nil told)
    ∙ ap (λ (os : List Outcome). told ++ os) (sym (ap (λ (o : Option Sent). told_in w (delivery_of w c.args.at o)) is_sent ∙ absent_told w f.to (Frame c.args.at f.bytes) Saved nobody))

pub index_mut-receiver-requires : goal.index_mut-receiver-requires
index_mut-receiver-requires c =
    let within = found_within c.deref.result.now c.to-to.result c.in-Some-seat_of.k (sym c.in-Some-seat_of.ensures) in
    omega (arith, within, ap length c.deref.ensures.value, c.self.inside.places.ok.0)
