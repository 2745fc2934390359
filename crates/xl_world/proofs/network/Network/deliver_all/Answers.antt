use Rattle.std.proofs.Common.{◌∙◌, List, ℕ, ap, arith, length, refl, subst, sym}
use Rattle.std.specs.Prelude.{slice_get}
use Rattle.xl_world.specs.Schedule.{delivery_of}
use Rattle.xl_world.specs.Sending.{Sent}
use Rattle.xl_world.specs.World.{World, marked_world}
use Rattle.xl_world.specs.Worlds.{network_seen}
use Rattle.xl_world.proofs.Going.{IsDelivered, delivered_all, delivered_first, delivered_more}
use Rattle.xl_world.proofs.Growing.{grows_on, grows_same, grows_so, longer_same}
use Rattle.xl_world.proofs.Seating.{seats_on}
use Rattle.xl_world.proofs.network.Network.deliver_all.Goals as goal

pub loop-place-init : goal.loop-place-init
loop-place-init c =
    let told = c.args.told.now.items in (
      subst (λ (k : ℕ). IsDelivered c.args.self.now c.args.at told k c.args.self.now told) (sym (c.mark-place.ensures.value ∙ ap (λ (w : World). w.mark) c.self.view_is))
          (delivered_first c.args.self.now c.args.at told c.requires.rest),
      grows_same c.args.self.now c.args.self.now refl,
      c.requires.seats,
    )

pub loop-place-preserved : goal.loop-place-preserved
loop-place-preserved c = (
  delivered_more c.args.self.now c.args.at c.args.told.now.items c.loop-place.place c.loop-place.self c.loop-place.told.items c.deliver.new.self c.deliver.new.told.items
      (omega (arith, c.loop-place-test.true, c.len-place-end.ensures, ap length c.sent.ensures, ap (λ (w : World). length w.sent) c.self.view_is))
      c.loop-place.invariant.0 c.in_ok-deliver.ensures.world c.in_ok-deliver.ensures.told,
  grows_on c.args.self.now c.loop-place.self c.deliver.new.self c.loop-place.invariant.1 c.deliver.ensures.grows,
  seats_on c.args.seats.now c.loop-place.self c.deliver.new.self (delivery_of c.loop-place.self c.args.at (slice_get c.loop-place.self.sent c.loop-place.place)) c.in_ok-deliver.ensures.world c.loop-place.invariant.2,
)

pub returns-clause-world : goal.returns-clause-world
returns-clause-world c =
    let with_traffic = λ (frames : List Sent) (mark : ℕ). let w : World = record (network_seen c.self-2.inside) { sent = frames; mark = mark } in w in
    ap (λ (frames : List Sent). with_traffic frames c.move_mark.new.self.mark) c.move_mark.ensures.frames
    ∙ (ap (with_traffic c.self-2.inside.traffic.frames) c.move_mark.ensures.mark
    ∙ (ap marked_world c.self-2.view_is
    ∙ (delivered_all c.args.self.now c.args.at c.args.told.now.items c.loop-place.place c.loop-place.self c.loop-place.told.items
    (omega (arith, c.loop-place-test.false, c.len-place-end.ensures, ap length c.sent.ensures, ap (λ (w : World). length w.sent) c.self.view_is)) c.loop-place.invariant.0).0))

pub returns-clause-told : goal.returns-clause-told
returns-clause-told c =
    (delivered_all c.args.self.now c.args.at c.args.told.now.items c.loop-place.place c.loop-place.self c.loop-place.told.items
    (omega (arith, c.loop-place-test.false, c.len-place-end.ensures, ap length c.sent.ensures, ap (λ (w : World). length w.sent) c.self.view_is)) c.loop-place.invariant.0).1

-- WHAT WAS TOLD STAYS

pub returns-in_err-deliver-clause-grows : goal.returns-in_err-deliver-clause-grows
returns-in_err-deliver-clause-grows c = grows_on c.args.self.now c.loop-place.self c.deliver.new.self c.loop-place.invariant.1 c.deliver.ensures.grows

pub returns-clause-grows : goal.returns-clause-grows
returns-clause-grows c =
    let u : World = network_seen c.self-2.inside in
    grows_on c.args.self.now c.loop-place.self _ c.loop-place.invariant.1
    (grows_so c.loop-place.self u u.places c.move_mark.new.self.frames c.move_mark.new.self.mark u.said u.reports u.lists c.self-2.view_is
    (longer_same u.sent c.move_mark.new.self.frames c.move_mark.ensures.frames) (longer_same u.said u.said refl) (longer_same u.reports u.reports refl) (longer_same u.lists u.lists refl))
