use Rattle.std.proofs.Common.{◌≡◌, ◌+◌, ◌∙◌, ℕ, ap, subst, sym}
use Rattle.std.specs.Prelude.{◌==◌}
use Rattle.std.proofs.lemmas.Bool.{not-true, not-false}
use Rattle.xl_core.specs.Core.{Core}
use Rattle.xl_core.specs.Node.{Node}
use Rattle.xl_world.specs.Ends.{IsLonger}
use Rattle.xl_world.specs.Indexes.{Traffic}
use Rattle.xl_world.proofs.Drains.{IsDrainedTo, drained_more, drained_past}
use Rattle.xl_world.proofs.Growing.{longer_on, longer_same}
use Rattle.xl_world.proofs.draining.drain_each.Goals as goal
use Rattle.xl_world.proofs.draining.drain_each.Goals.{After-ne, then-ne+in_ok-drain_for, else-ne}

-- the node's number, as the code asks it
tested : (c : After-ne) → (c.to-item.result == c.me.result) ≡ (c.to-item.result == c.args.core.now.node.me)
tested c =
    ap (λ (k : ℕ). c.to-item.result == k) (c.me.ensures ∙ (ap (λ (n : Node). n.me) c.node.ensures.value ∙ ap (λ (n : Node). n.me) c.loop-to.invariant.0.node))

pub loop-to-preserved : goal.loop-to-preserved
loop-to-preserved c =
    let d = (goal.at.loop-to-preserved c).After-ne in (
      elim c.if-ne.branch [
        | then-ne+in_ok-drain_for w ↦
            drained_more c.args.numbers.now c.loop-to.to-index c.args.core.now c.loop-to.core c.if-ne.core c.args.traffic.now c.loop-to.traffic c.if-ne.traffic c.to-item.result c.loop-to-test.true c.to-item.is
            (sym (tested d) ∙ not-true _ (sym c.ne.ensures ∙ w.if-ne.true)) c.loop-to.invariant.0 (w.core-is ∙ w.in_ok-drain_for.ensures.core) (w.traffic-is ∙ w.in_ok-drain_for.ensures.sent)
        | else-ne w ↦
            subst (λ (core : Core). IsDrainedTo c.args.numbers.now (c.loop-to.to-index + 1) c.args.core.now core c.args.traffic.now c.if-ne.traffic) (sym w.core-is)
            (subst (λ (traffic : Traffic). IsDrainedTo c.args.numbers.now (c.loop-to.to-index + 1) c.args.core.now c.loop-to.core c.args.traffic.now traffic) (sym w.traffic-is)
            (drained_past c.args.numbers.now c.loop-to.to-index c.args.core.now c.loop-to.core c.args.traffic.now c.loop-to.traffic c.to-item.result c.loop-to-test.true c.to-item.is
            (sym (tested d) ∙ not-false _ (sym c.ne.ensures ∙ w.if-ne.false)) c.loop-to.invariant.0))
      ],
      longer_on c.args.traffic.now.frames c.loop-to.traffic.frames c.if-ne.traffic.frames c.loop-to.invariant.1 (elim c.if-ne.branch [
        | then-ne+in_ok-drain_for w ↦ subst (λ (t : Traffic). IsLonger c.loop-to.traffic.frames t.frames) (sym w.traffic-is) w.in_ok-drain_for.ensures.longer
        | else-ne w ↦ longer_same c.loop-to.traffic.frames c.if-ne.traffic.frames (ap (λ (t : Traffic). t.frames) w.traffic-is)
      ]),
    )

pub returns-in_err-drain_for-clause-longer : goal.returns-in_err-drain_for-clause-longer
returns-in_err-drain_for-clause-longer c =
    longer_on c.args.traffic.now.frames c.loop-to.traffic.frames c.drain_for.new.traffic.frames c.loop-to.invariant.1 c.drain_for.ensures.longer
