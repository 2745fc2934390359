use Rattle.std.proofs.Common.{◌∙◌, arith, sym}
use Rattle.xl_world.proofs.Framing.{sent_there, unsent_all, unsent_next}
use Rattle.xl_world.proofs.frames.was_sent.Goals as goal

pub loop-place-preserved : goal.loop-place-preserved
loop-place-preserved c =
    unsent_next c.args.sent.now c.args.bytes.now c.loop-place.place (omega (arith, c.loop-place-test.true, c.len-place-end.ensures)) c.loop-place.invariant (sym c.is_at.ensures ∙ c.if-is_at.false)

pub returns-then-is_at : goal.returns-then-is_at
returns-then-is_at c = sym (sent_there c.args.sent.now c.args.bytes.now c.loop-place.place (sym c.is_at.ensures ∙ c.if-is_at.true))

pub returns : goal.returns
returns c = unsent_all c.args.sent.now c.args.bytes.now c.loop-place.place (omega (arith, c.loop-place-test.false, c.len-place-end.ensures)) c.loop-place.invariant
