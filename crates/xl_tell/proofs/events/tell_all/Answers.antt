-- delivery after delivery, and then the mark
use Rattle.std.proofs.Common.{◌+◌, ◌∷◌}
use Rattle.std.specs.String.{string_bytes}
use Rattle.xl_running.specs.Running.{world_of}
use Rattle.xl_sched.specs.declared.event.What.TheVariants as what
use Rattle.xl_world.specs.Parts.{delivery_at, parts_at}
use Rattle.xl_tell.proofs.Going.{deliveries_done, deliveries_first, deliveries_left, goes_as, goes_further, is_open, leads_there, one_left, tells_all}
use Rattle.xl_tell.proofs.events.tell_all.Goals as goal

pub loop-place-init : goal.loop-place-init
loop-place-init c = deliveries_first c.args.running.now (string_bytes c.args.text.now) c.args.at c.undelivered-first.result.0 c.undelivered-first.result.1 c.requires.opened c.undelivered-first.ensures.mark c.undelivered-first.ensures.sent

pub tell_part-requires-clause-opened : goal.tell_part-requires-clause-opened
tell_part-requires-clause-opened c =
    let r = c.args.running.now in
    is_open r c.loop-place.running (string_bytes c.args.text.now) (string_bytes c.loop-place.text) (parts_at (world_of r) c.args.at what.All) (deliveries_left c.args.at c.loop-place.place c.undelivered-first.result.1) c.loop-place.invariant

pub loop-place-preserved : goal.loop-place-preserved
loop-place-preserved c =
    let at = c.args.at in
    let end = c.undelivered-first.result.1 in
    let place = c.loop-place.place in
    let r = c.args.running.now in
    let now = c.loop-place.running in
    let old = string_bytes c.args.text.now in
    let text = string_bytes c.loop-place.text in
    let all = parts_at (world_of r) at what.All in
    goes_further r now c.tell_part.new.running old text (string_bytes c.tell_part.new.text) all (deliveries_left at (place + 1) end) (delivery_at at (place + 1))
    (goes_as r now old text all (deliveries_left at place end) (delivery_at at (place + 1) ∷ deliveries_left at (place + 1) end) (one_left at place end c.loop-place-test.true) c.loop-place.invariant)
    c.in_ok-tell_part.ensures.happens c.in_ok-tell_part.ensures.told

pub tell_part-requires-2-clause-opened : goal.tell_part-requires-2-clause-opened
tell_part-requires-2-clause-opened c =
    let r = c.args.running.now in
    is_open r c.loop-place.running (string_bytes c.args.text.now) (string_bytes c.loop-place.text) (parts_at (world_of r) c.args.at what.All) (deliveries_left c.args.at c.loop-place.place c.undelivered-first.result.1) c.loop-place.invariant

pub returns-clause-world : goal.returns-clause-world
returns-clause-world c =
    let r = c.args.running.now in
    let next = c.tell_part-2.new.running in
    let old = string_bytes c.args.text.now in
    let more = string_bytes c.tell_part-2.new.text in
    leads_there r next old more (parts_at (world_of r) c.args.at what.All)
    (deliveries_done r c.loop-place.running next old (string_bytes c.loop-place.text) more c.args.at c.loop-place.place c.undelivered-first.result.1 c.loop-place-test.false c.loop-place.invariant
    c.in_ok-tell_part-2.ensures.happens c.in_ok-tell_part-2.ensures.told)

pub returns-clause-told : goal.returns-clause-told
returns-clause-told c =
    let r = c.args.running.now in
    let next = c.tell_part-2.new.running in
    let old = string_bytes c.args.text.now in
    let more = string_bytes c.tell_part-2.new.text in
    tells_all r next old more (parts_at (world_of r) c.args.at what.All)
    (deliveries_done r c.loop-place.running next old (string_bytes c.loop-place.text) more c.args.at c.loop-place.place c.undelivered-first.result.1 c.loop-place-test.false c.loop-place.invariant
    c.in_ok-tell_part-2.ensures.happens c.in_ok-tell_part-2.ensures.told)
