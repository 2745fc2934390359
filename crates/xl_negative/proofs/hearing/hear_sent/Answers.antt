use Rattle.std.proofs.Common.{ap, arith, drop, length, ◌++◌}
use Rattle.xl_negative.specs.Hearing.{heard_in_sent}
use Rattle.xl_negative.proofs.Handing.{heard_all, heard_next}
use Rattle.xl_negative.proofs.hearing.hear_sent.Goals as goal

pub loop-place-init : goal.loop-place-init
loop-place-init c = ap (λ k. c.args.heard.now.items ++ heard_in_sent c.args.world.now (drop k c.args.world.now.sent)) c.mark-place.ensures

pub loop-place-preserved : goal.loop-place-preserved
loop-place-preserved c =
    heard_next c.args.world.now c.loop-place.place c.loop-place.heard.items c.hear_place.new.heard.items _ (omega (arith, c.loop-place-test.true, c.len-place-end.ensures, ap length c.sent.ensures))
    c.loop-place.invariant c.in_ok-hear_place.ensures

pub returns : goal.returns
returns c =
    heard_all c.args.world.now c.loop-place.place c.loop-place.heard.items _ (omega (arith, c.loop-place-test.false, c.len-place-end.ensures, ap length c.sent.ensures)) c.loop-place.invariant
