-- the parts so far, and then the deliveries left and the drop, are all that the line stands for
use Rattle.std.proofs.Common.{◌+◌, ◌∷◌, []}
use Rattle.std.specs.String.{string_bytes}
use Rattle.xl_running.specs.Running.{world_of}
use Rattle.xl_sched.specs.declared.event.What.TheVariants.{All}
use Rattle.xl_world.specs.Parts.{delivery_at, drop_at, parts_at}
use Rattle.xl_voting.proofs.Going.{deliveries_from, last_said, last_world, no_delivery, one_delivery, same_left, steps}
use Rattle.xl_voting.proofs.voter.Voter.deliver_all.Goals as goal

pub loop-place-preserved : goal.loop-place-preserved
loop-place-preserved c =
    let at = c.args.at in
    let end = c.undelivered-first.result.1 in
    let r0 = c.args.self.now.running in
    let v0 = c.args.self.now.tally in
    let text0 = string_bytes c.args.text.now in
    let parts = parts_at (world_of r0) at All in
    let place = c.loop-place.place in
    let r = c.loop-place.self.running in
    let v = c.loop-place.self.tally in
    let text = string_bytes c.loop-place.text in
    steps r0 v0 text0 parts r v text (delivery_at at (place + 1)) (deliveries_from at (place + 1) end) c.part.new.self.running c.part.new.self.tally (string_bytes c.part.new.text)
    (same_left r0 v0 text0 parts r v text (deliveries_from at place end) (delivery_at at (place + 1) ∷ deliveries_from at (place + 1) end) (one_delivery at place end c.loop-place-test.true) c.loop-place.invariant)
    c.in_ok-part.ensures.world c.in_ok-part.ensures.said

pub returns-clause-world : goal.returns-clause-world
returns-clause-world c =
    let at = c.args.at in
    let end = c.undelivered-first.result.1 in
    let r0 = c.args.self.now.running in
    let v0 = c.args.self.now.tally in
    let text0 = string_bytes c.args.text.now in
    let parts = parts_at (world_of r0) at All in
    let place = c.loop-place.place in
    let r = c.loop-place.self.running in
    let v = c.loop-place.self.tally in
    let text = string_bytes c.loop-place.text in
    last_world r0 v0 text0 parts r v text (drop_at at)
    (same_left r0 v0 text0 parts r v text (deliveries_from at place end) (drop_at at ∷ []) (no_delivery at place end c.loop-place-test.false) c.loop-place.invariant)
    c.part-2.new.self.running c.part-2.new.self.tally (string_bytes c.part-2.new.text) c.part-2.result c.part-2.ensures.world c.part-2.ensures.said

pub returns-clause-said : goal.returns-clause-said
returns-clause-said c =
    let at = c.args.at in
    let end = c.undelivered-first.result.1 in
    let r0 = c.args.self.now.running in
    let v0 = c.args.self.now.tally in
    let text0 = string_bytes c.args.text.now in
    let parts = parts_at (world_of r0) at All in
    let place = c.loop-place.place in
    let r = c.loop-place.self.running in
    let v = c.loop-place.self.tally in
    let text = string_bytes c.loop-place.text in
    last_said r0 v0 text0 parts r v text (drop_at at)
    (same_left r0 v0 text0 parts r v text (deliveries_from at place end) (drop_at at ∷ []) (no_delivery at place end c.loop-place-test.false) c.loop-place.invariant)
    c.part-2.new.self.running c.part-2.new.self.tally (string_bytes c.part-2.new.text) c.part-2.result c.part-2.ensures.world c.part-2.ensures.said
