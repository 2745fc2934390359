-- rows and both lists rise, so an id passed over is of no later row, and the first that is left decides
use Rattle.std.proofs.Common.{arith}
use Rattle.xl_disputes.proofs.Walking.{moves_none, now_rises, now_long, all_moved, out_within, both_fit, moves_more}
use Rattle.xl_disputes.proofs.moving.move_part.Goals as goal

pub loop-place-init : goal.loop-place-init
loop-place-init c = moves_none c.args.rows.now c.args.from.now c.args.to.now c.args.part c.requires.leaving c.requires.coming

pub at-row-requires : goal.at-row-requires
at-row-requires c =
    omega (arith, c.loop-place-test.true, c.len-place-end.ensures, now_long c.args.rows.now c.loop-place.rows c.args.from.now c.args.to.now c.loop-place.leaving.now c.loop-place.coming.now c.args.part c.loop-place.place c.loop-place.invariant c.requires.apart)

pub exchange-tally-requires-clause-within : goal.exchange-tally-requires-clause-within
exchange-tally-requires-clause-within c =
    out_within c.args.rows.now c.loop-place.rows c.args.from.now c.args.to.now c.loop-place.leaving.now c.loop-place.coming.now c.args.part c.loop-place.place c.loop-place.invariant c.requires.apart
    c.at-row.result (omega (arith, c.loop-place-test.true, c.len-place-end.ensures)) c.at-row.ensures
    c.not_below-leaving.result.now c.not_below-coming.result.now c.is_first.result c.is_first-in-loop-place.result c.part_if-out.result c.part_if-into.result
    c.not_below-leaving.ensures c.not_below-coming.ensures c.is_first.ensures c.is_first-in-loop-place.ensures c.part_if-out.ensures c.part_if-into.ensures c.requires.within

pub exchange-tally-requires-clause-fitting : goal.exchange-tally-requires-clause-fitting
exchange-tally-requires-clause-fitting c =
    both_fit c.args.rows.now c.loop-place.rows c.args.from.now c.args.to.now c.loop-place.leaving.now c.loop-place.coming.now c.args.part c.loop-place.place c.loop-place.invariant c.requires.apart
    c.at-row.result (omega (arith, c.loop-place-test.true, c.len-place-end.ensures)) c.at-row.ensures
    c.not_below-leaving.result.now c.not_below-coming.result.now c.is_first.result c.is_first-in-loop-place.result c.part_if-out.result c.part_if-into.result
    c.not_below-leaving.ensures c.not_below-coming.ensures c.is_first.ensures c.is_first-in-loop-place.ensures c.part_if-out.ensures c.part_if-into.ensures c.requires.fitting

pub set-requires-clause-within : goal.set-requires-clause-within
set-requires-clause-within c =
    omega (arith, c.loop-place-test.true, c.len-place-end.ensures, now_long c.args.rows.now c.loop-place.rows c.args.from.now c.args.to.now c.loop-place.leaving.now c.loop-place.coming.now c.args.part c.loop-place.place c.loop-place.invariant c.requires.apart)

pub set-requires-clause-apart : goal.set-requires-clause-apart
set-requires-clause-apart c = now_rises c.args.rows.now c.loop-place.rows c.args.from.now c.args.to.now c.loop-place.leaving.now c.loop-place.coming.now c.args.part c.loop-place.place c.loop-place.invariant c.requires.apart

pub loop-place-preserved : goal.loop-place-preserved
loop-place-preserved c =
    moves_more c.args.rows.now c.loop-place.rows c.args.from.now c.args.to.now c.loop-place.leaving.now c.loop-place.coming.now c.args.part c.loop-place.place c.loop-place.invariant c.requires.apart
    c.at-row.result (omega (arith, c.loop-place-test.true, c.len-place-end.ensures)) c.at-row.ensures
    c.not_below-leaving.result.now c.not_below-coming.result.now c.is_first.result c.is_first-in-loop-place.result c.part_if-out.result c.part_if-into.result
    c.not_below-leaving.ensures c.not_below-coming.ensures c.is_first.ensures c.is_first-in-loop-place.ensures c.part_if-out.ensures c.part_if-into.ensures
    c.exchange-tally.result c.set.new.self c.exchange-tally.ensures c.set.ensures

pub returns : goal.returns
returns c = all_moved c.args.rows.now c.loop-place.rows c.args.from.now c.args.to.now c.loop-place.leaving.now c.loop-place.coming.now c.args.part c.loop-place.place c.loop-place.invariant c.requires.apart (omega (arith, c.loop-place-test.false, c.len-place-end.ensures))
