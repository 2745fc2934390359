use Rattle.std.proofs.Common.{sym, ◌∙◌, []}
use Rattle.xl_disputes.proofs.RisingIds.{rises_more}
use Rattle.test_in_memory.proofs.rising.rises.Goals as goal

pub loop-place-preserved : goal.loop-place-preserved
loop-place-preserved c =
    rises_more c.args.ids.now c.loop-place.place (record { 0 = [] }) c.loop-place.auto.place c.loop-place-test.true
    (sym c.is_below.ensures ∙ c.if-not-is_below.false) c.loop-place.invariant
