use Rattle.std.proofs.Common.{◌+◌, ◌<◌, Bool, ap, arith, length, refl, subst, sym}
use Rattle.std.specs.Prelude.{if◌then◌else◌}
use Rattle.xl_world.specs.Indexes.{Traffic}
use Rattle.xl_world.proofs.Growing.{longer_on, longer_same}
use Rattle.xl_world.proofs.Itemwise.{never, sending_all, sending_none, step_longer, step_sending, step_smaller, waits}
use Rattle.xl_world.proofs.draining.send_waiting.Goals as goal

pub loop-more-init : goal.loop-more-init
loop-more-init c = (
  sending_all c.args.core.now c.args.to c.args.traffic.now
      (record { least = omega (arith, c.get-number.ensures.first, c.get-number.ensures.value); most = omega (arith, c.get-number.ensures.last, c.get-number.ensures.value, c.first-first.ensures.numbers); none = c.requires.plain }),
  longer_same c.args.traffic.now.frames c.args.traffic.now.frames refl,
  λ e. absurd (never e),
)

pub loop-more-preserved : goal.loop-more-preserved
loop-more-preserved c =
    let step = step_sending c.in_ok-more.more c.args.core.now c.loop-more.core c.send_first.new.core c.args.to c.args.traffic.now c.loop-more.traffic c.send_first.new.traffic c.loop-more.invariant.0 c.in_ok-more.ensures.sends in (
      step.0,
      longer_on c.args.traffic.now.frames c.loop-more.traffic.frames c.send_first.new.traffic.frames c.loop-more.invariant.1
          (step_longer c.in_ok-more.more c.loop-more.core c.send_first.new.core c.args.to c.loop-more.traffic c.send_first.new.traffic c.in_ok-more.ensures.sends),
      step.1,
    )

pub loop-more-smaller : goal.loop-more-smaller
loop-more-smaller c =
    subst (λ (b : Bool). length (waits c.send_first.new.core c.args.to) + (if c.in_ok-more.more then 1 else 0) < length (waits c.loop-more.core c.args.to) + (if b then 1 else 0)) (sym c.loop-more-test.true)
    (step_smaller c.in_ok-more.more c.loop-more.core c.send_first.new.core c.args.to c.loop-more.traffic c.send_first.new.traffic c.loop-more.invariant.0.plain c.in_ok-more.ensures.sends)

pub returns-clause-core : goal.returns-clause-core
returns-clause-core c = (sending_none c.args.core.now c.loop-more.core c.args.to c.args.traffic.now c.loop-more.traffic
    (record { least = omega (arith, c.get-number.ensures.first, c.get-number.ensures.value); most = omega (arith, c.get-number.ensures.last, c.get-number.ensures.value, c.first-first.ensures.numbers); none = c.requires.plain })
    c.loop-more.invariant.0 (c.loop-more.invariant.2 c.loop-more-test.false)).0

pub returns-clause-sent : goal.returns-clause-sent
returns-clause-sent c = (sending_none c.args.core.now c.loop-more.core c.args.to c.args.traffic.now c.loop-more.traffic
    (record { least = omega (arith, c.get-number.ensures.first, c.get-number.ensures.value); most = omega (arith, c.get-number.ensures.last, c.get-number.ensures.value, c.first-first.ensures.numbers); none = c.requires.plain })
    c.loop-more.invariant.0 (c.loop-more.invariant.2 c.loop-more-test.false)).1

pub returns-in_err-more-clause-longer : goal.returns-in_err-more-clause-longer
returns-in_err-more-clause-longer c =
    longer_on c.args.traffic.now.frames c.loop-more.traffic.frames c.send_first.new.traffic.frames c.loop-more.invariant.1
    (longer_same c.loop-more.traffic.frames c.send_first.new.traffic.frames (ap (λ (t : Traffic). t.frames) c.in_err-more.ensures.err))
