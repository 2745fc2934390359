-- the parts so far, and then a timer for each number left, are all that the line stands for
use Rattle.std.proofs.Common.{ℕ, List, ◌+◌, ◌∷◌, [], drop, map, sym, ap, ◌∙◌}
use Rattle.std.specs.String.{string_bytes}
use Rattle.xl_running.specs.Running.{world_of}
use Rattle.xl_sched.specs.declared.event.What.TheVariants.{Timers}
use Rattle.xl_world.specs.Parts.{parts_at, timer_at}
use Rattle.xl_voting.proofs.Going.{begins, no_timer, one_timer, said_ends, same_left, steps, world_ends}
use Rattle.xl_voting.proofs.voter.Voter.time_all.Goals as goal

pub loop-node-init : goal.loop-node-init
loop-node-init c =
    let at = c.args.at in
    let r0 = c.args.self.now.running in
    let v0 = c.args.self.now.tally in
    let text0 = string_bytes c.args.text.now in
    let parts = parts_at (world_of r0) at Timers in
    same_left r0 v0 text0 parts c.numbers.new.self v0 text0 parts (map (timer_at at) c.as_slice-node-items.result.now)
    (ap (λ (ns : List ℕ). map (timer_at at) ns) (sym (c.as_slice-node-items.ensures.value ∙ c.in_ok-numbers.ensures.numbers)))
    (begins r0 v0 text0 parts c.numbers.new.self c.in_ok-numbers.ensures.world)

pub loop-node-preserved : goal.loop-node-preserved
loop-node-preserved c =
    let at = c.args.at in
    let r0 = c.args.self.now.running in
    let v0 = c.args.self.now.tally in
    let text0 = string_bytes c.args.text.now in
    let parts = parts_at (world_of r0) at Timers in
    let items = c.as_slice-node-items.result.now in
    let i = c.loop-node.node-index in
    let node = c.node-item.result in
    let r = c.loop-node.self.running in
    let v = c.loop-node.self.tally in
    let text = string_bytes c.loop-node.text in
    steps r0 v0 text0 parts r v text (timer_at at node) (map (timer_at at) (drop (i + 1) items)) c.part.new.self.running c.part.new.self.tally (string_bytes c.part.new.text)
    (same_left r0 v0 text0 parts r v text (map (timer_at at) (drop i items)) (timer_at at node ∷ map (timer_at at) (drop (i + 1) items)) (one_timer at items i node c.loop-node-test.true c.node-item.is) c.loop-node.invariant)
    c.in_ok-part.ensures.world c.in_ok-part.ensures.said

pub returns-clause-world : goal.returns-clause-world
returns-clause-world c =
    let at = c.args.at in
    let r0 = c.args.self.now.running in
    let v0 = c.args.self.now.tally in
    let text0 = string_bytes c.args.text.now in
    let parts = parts_at (world_of r0) at Timers in
    let items = c.as_slice-node-items.result.now in
    let i = c.loop-node.node-index in
    let r = c.loop-node.self.running in
    let v = c.loop-node.self.tally in
    let text = string_bytes c.loop-node.text in
    world_ends r0 v0 text0 parts r v text (same_left r0 v0 text0 parts r v text (map (timer_at at) (drop i items)) [] (no_timer at items i c.loop-node-test.false) c.loop-node.invariant)

pub returns-clause-said : goal.returns-clause-said
returns-clause-said c =
    let at = c.args.at in
    let r0 = c.args.self.now.running in
    let v0 = c.args.self.now.tally in
    let text0 = string_bytes c.args.text.now in
    let parts = parts_at (world_of r0) at Timers in
    let items = c.as_slice-node-items.result.now in
    let i = c.loop-node.node-index in
    let r = c.loop-node.self.running in
    let v = c.loop-node.self.tally in
    let text = string_bytes c.loop-node.text in
    said_ends r0 v0 text0 parts r v text (same_left r0 v0 text0 parts r v text (map (timer_at at) (drop i items)) [] (no_timer at items i c.loop-node-test.false) c.loop-node.invariant)
