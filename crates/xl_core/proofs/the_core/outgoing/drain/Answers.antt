-- each step takes the oldest item out, so what is left grows fewer, and what was written is what was taken
use Rattle.std.proofs.Common.{◌≡◌, ◌∙◌, ◌++◌, ℕ, length, drop, take, ap, arith}
use Rattle.xl_core.specs.Draining.{node_for}
use Rattle.xl_core.specs.Items.{frame_of, frames_for}
use Rattle.xl_core.specs.Queues.{at_number, after_taking, count_fitting, frames_in, stream_of}
use Rattle.xl_core.proofs.Draining.{drained_more, drained_end, drained_none, fewer_left, length_changed}
use Rattle.xl_core.proofs.the_core.outgoing.drain.Goals as goal

pub loop-next-init : goal.loop-next-init
loop-next-init g c = drained_none (frames_for (node_for c.args.tags c.args.node.now) c.args.waiting.now c.args.member) c.args.waiting.now c.args.member c.args.room.now

pub loop-next-preserved : goal.loop-next-preserved
loop-next-preserved g c =
    let so_far = c.loop-next.invariant in
    let long : length c.loop-next.waiting ≡ length c.args.waiting.now = ap length so_far.waits ∙ length_changed c.args.waiting.now c.args.member (after_taking (take so_far.count (frames_for (node_for c.args.tags c.args.node.now) c.args.waiting.now c.args.member))) in
    drained_more (frame_of (node_for c.args.tags c.args.node.now) c.args.member) c.args.waiting.now c.loop-next.waiting c.drain_first.new.waiting c.args.member c.args.room.now c.loop-next.room c.drain_first.new.room c.loop-next.at c.in-Some.next
    c.drain_first.ensures.numbers.1 (omega (arith, c.drain_first.ensures.numbers.0, c.drain_first.ensures.numbers.2, long)) so_far (c.drain_first.ensures.some c.in-Some.next c.in-Some.is)

pub loop-next-smaller : goal.loop-next-smaller
loop-next-smaller g c =
    fewer_left (frame_of (node_for c.args.tags c.args.node.now) c.args.member) c.loop-next.waiting c.drain_first.new.waiting c.args.member c.loop-next.at c.in-Some.next c.loop-next.room c.drain_first.new.room
    c.drain_first.ensures.numbers.1 (omega (arith, c.drain_first.ensures.numbers.0, c.drain_first.ensures.numbers.2)) (c.drain_first.ensures.some c.in-Some.next c.in-Some.is)

-- it ended if nothing more fits
ended : (g : _) (c : goal.In_default g) → c.loop-next.invariant.count ≡ count_fitting (frames_for (node_for c.args.tags c.args.node.now) c.args.waiting.now c.args.member) (length c.args.room.now)
ended g c =
    let so_far = c.loop-next.invariant in
    let long : length c.loop-next.waiting ≡ length c.args.waiting.now = ap length so_far.waits ∙ length_changed c.args.waiting.now c.args.member (after_taking (take so_far.count (frames_for (node_for c.args.tags c.args.node.now) c.args.waiting.now c.args.member))) in
    drained_end (frame_of (node_for c.args.tags c.args.node.now) c.args.member) c.args.waiting.now c.loop-next.waiting c.args.member c.args.room.now c.loop-next.room c.loop-next.at
    c.drain_first.ensures.numbers.1 (omega (arith, c.drain_first.ensures.numbers.0, c.drain_first.ensures.numbers.2, long)) so_far (c.drain_first.ensures.none c.in_default.is).0

pub returns-clause-count : goal.returns-clause-count
returns-clause-count g c =
    c.loop-next.invariant.so_far.place ∙ ap (λ (n : ℕ). length (stream_of (frames_in (take n (frames_for (node_for c.args.tags c.args.node.now) c.args.waiting.now c.args.member))))) (ended g c)

pub returns-clause-frames : goal.returns-clause-frames
returns-clause-frames g c =
    (c.drain_first.ensures.none c.in_default.is).2 ∙ c.loop-next.invariant.so_far.written
    ∙ ap (λ (n : ℕ). stream_of (frames_in (take n (frames_for (node_for c.args.tags c.args.node.now) c.args.waiting.now c.args.member))) ++ drop c.loop-next.at c.args.room.now) (ended g c)

pub returns-clause-taken : goal.returns-clause-taken
returns-clause-taken g c =
    (c.drain_first.ensures.none c.in_default.is).1 ∙ c.loop-next.invariant.waits
    ∙ ap (λ (n : ℕ). at_number c.args.waiting.now c.args.member (after_taking (take n (frames_for (node_for c.args.tags c.args.node.now) c.args.waiting.now c.args.member)))) (ended g c)
