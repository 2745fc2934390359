-- timer after timer
use Rattle.std.proofs.Common.{ℕ, ◌+◌, List, ◌∷◌, drop, map, ap, ◌∙◌}
use Rattle.std.specs.String.{string_bytes}
use Rattle.xl_running.specs.Running.{world_of}
use Rattle.xl_sched.specs.declared.event.What.TheVariants as what
use Rattle.xl_world.specs.Parts.{parts_at, timer_at}
use Rattle.xl_tell.proofs.Going.{goes_as, goes_first, goes_further, is_open, leads_there, one_timer, tells_all, timers_done}
use Rattle.xl_tell.proofs.events.tell_timers.Goals as goal

pub loop-node-init : goal.loop-node-init
loop-node-init c =
    let at = c.args.at in
    let r = c.args.running.now in
    let text = string_bytes c.args.text.now in
    goes_first r c.numbers.new.self text (parts_at (world_of r) at what.Timers) (map (timer_at at) c.as_slice-node-items.result.now) c.in_ok-numbers.ensures.world
    (ap (λ (ns : List ℕ). map (timer_at at) ns) (c.as_slice-node-items.ensures.value ∙ c.in_ok-numbers.ensures.numbers))

pub tell_part-requires-clause-opened : goal.tell_part-requires-clause-opened
tell_part-requires-clause-opened c =
    let r = c.args.running.now in
    is_open r c.loop-node.running (string_bytes c.args.text.now) (string_bytes c.loop-node.text) (parts_at (world_of r) c.args.at what.Timers) (map (timer_at c.args.at) (drop c.loop-node.node-index c.as_slice-node-items.result.now)) c.loop-node.invariant

pub loop-node-preserved : goal.loop-node-preserved
loop-node-preserved c =
    let at = c.args.at in
    let r = c.args.running.now in
    let now = c.loop-node.running in
    let old = string_bytes c.args.text.now in
    let text = string_bytes c.loop-node.text in
    let all = parts_at (world_of r) at what.Timers in
    let items = c.as_slice-node-items.result.now in
    let i = c.loop-node.node-index in
    let node = c.node-item.result in
    goes_further r now c.tell_part.new.running old text (string_bytes c.tell_part.new.text) all (map (timer_at at) (drop (i + 1) items)) (timer_at at node)
    (goes_as r now old text all (map (timer_at at) (drop i items)) (timer_at at node ∷ map (timer_at at) (drop (i + 1) items)) (one_timer at items i node c.loop-node-test.true c.node-item.is) c.loop-node.invariant)
    c.in_ok-tell_part.ensures.happens c.in_ok-tell_part.ensures.told

pub returns-clause-world : goal.returns-clause-world
returns-clause-world c =
    let r = c.args.running.now in
    let now = c.loop-node.running in
    let old = string_bytes c.args.text.now in
    let text = string_bytes c.loop-node.text in
    leads_there r now old text (parts_at (world_of r) c.args.at what.Timers)
    (timers_done r now old text c.args.at c.as_slice-node-items.result.now c.loop-node.node-index c.loop-node-test.false c.loop-node.invariant)

pub returns-clause-told : goal.returns-clause-told
returns-clause-told c =
    let r = c.args.running.now in
    let now = c.loop-node.running in
    let old = string_bytes c.args.text.now in
    let text = string_bytes c.loop-node.text in
    tells_all r now old text (parts_at (world_of r) c.args.at what.Timers)
    (timers_done r now old text c.args.at c.as_slice-node-items.result.now c.loop-node.node-index c.loop-node-test.false c.loop-node.invariant)
