use Rattle.std.proofs.Common.{◌≡◌, ◌≢◌, ◌∙◌, ℕ, List, ap, arith, length, map, subst, sym}
use Rattle.xl_tags.specs.Rings.{schedule_ring}
use Rattle.xl_core.specs.Answers.{given_in}
use Rattle.xl_core.specs.Core.{Core, all_frames}
use Rattle.xl_core.specs.Node.{Node}
use Rattle.xl_core.specs.Sending.{without_tag}
use Rattle.xl_world.specs.Emptying.{drained_once}
use Rattle.xl_world.specs.Indexes.{with_frames}
use Rattle.xl_world.specs.Seen.{sent_from}
use Rattle.xl_world.specs.Sending.{sent_as}
use Rattle.xl_world.proofs.Drains.{given_is, given_whole, left_more, some_given}
use Rattle.xl_world.proofs.Sealing.{IsFor, IsNumber, framed_for, sent_so}
use Rattle.xl_world.proofs.Growing.{longer_on}
use Rattle.xl_world.proofs.Shortening.{fewer_left}
use Rattle.xl_world.proofs.draining.drain_greeted.Goals as goal
use Rattle.xl_world.proofs.draining.drain_greeted.Goals.{In-Some}

-- the drain gave something
some : (c : In-Some) → length (given_in (drained_once c.loop-count.core c.args.to).answer) ≡ 0 → ⊥
some c = some_given (given_in (drained_once c.loop-count.core c.args.to).answer) c.in-Some.count c.drain_once.new.room c.in-Some.ensures.some.0 (omega (arith, c.in-Some.ensures.some.1, c.drain_once.array_long)) c.in-Some.ensures.some.2

pub loop-count-smaller : goal.loop-count-smaller
loop-count-smaller c =
    let d = (goal.at.loop-count-smaller c).In-Some in
    omega (arith, fewer_left c.loop-count.core c.args.to (some d), ap (λ (core : Core). length (all_frames core c.args.to)) c.drain_once.ensures.core)

pub loop-count-preserved : goal.loop-count-preserved
loop-count-preserved c =
    let d = (goal.at.loop-count-preserved c).In-Some in
    let core : Core = c.loop-count.core in
    let given : List (List ℕ) = given_in (drained_once core c.args.to).answer in
    let same : core.node ≡ c.args.core.now.node = c.loop-count.invariant.0.node in
    let from : c.me-from.result ≡ core.node.me = c.loop-count.invariant.1 ∙ sym (ap (λ (n : Node). n.me) same) in
    let keys : core.node.keys ≡ schedule_ring core.node.me = subst (λ (n : Node). n.keys ≡ schedule_ring n.me) (sym same) c.requires.keys in
    let other : c.args.to ≢ core.node.me = subst (λ (n : Node). c.args.to ≢ n.me) (sym same) c.requires.other in
    let mine : IsNumber core.node.me = subst IsNumber from (omega (arith, c.get-number.ensures.value, c.get-number.ensures.first), omega (arith, c.get-number.ensures.value, c.get-number.ensures.last)) in
    let so : map (sent_as core.node.me c.args.to) (map without_tag given) ≡ map (sent_from core.node.me c.args.to) given =
    sent_so core.node.me c.args.to given (given_is (IsFor c.args.to) core c.args.to (λ body. framed_for core.node c.args.to body keys mine (omega arith, omega arith) other)) in (
      left_more c.args.core.now core c.drain_once.new.core c.args.to c.args.traffic.now c.loop-count.traffic c.send_each.new.traffic c.loop-count.invariant.0 (some d) c.drain_once.ensures.core
          (c.in_ok-send_each.ensures.sent (map without_tag given) (given_whole core c.args.to) c.in-Some.ensures.some.2
          ∙ ap (λ (m : ℕ). with_frames c.loop-count.traffic (map (sent_as m c.args.to) (map without_tag given))) from ∙ ap (with_frames c.loop-count.traffic) so),
      c.loop-count.invariant.1,
      longer_on c.args.traffic.now.frames c.loop-count.traffic.frames c.send_each.new.traffic.frames c.loop-count.invariant.2 c.send_each.ensures.longer,
    )

pub returns-in_err-send_each-clause-longer : goal.returns-in_err-send_each-clause-longer
returns-in_err-send_each-clause-longer c =
    longer_on c.args.traffic.now.frames c.loop-count.traffic.frames c.send_each.new.traffic.frames c.loop-count.invariant.2 c.send_each.ensures.longer
