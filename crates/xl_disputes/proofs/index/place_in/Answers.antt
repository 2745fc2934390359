-- rows rise, so a look at the middle one tells on which side the place lies, and it stays between low and high
use Rattle.std.proofs.Common.{◌+◌, ◌-◌, ◌/◌, arith}
use Rattle.xl_disputes.proofs.Finding.{is_before, not_before, place_within}
use Rattle.xl_disputes.proofs.index.place_in.Goals as goal

pub loop-low-init : goal.loop-low-init
loop-low-init c = record {
  low = omega arith;
  high = omega (arith, place_within c.args.id.now c.args.rows.now, c.len-high.ensures);
  within = omega (arith, c.len-high.ensures);
}

pub loop-low-preserved-then-is_below : goal.loop-low-preserved-then-is_below
loop-low-preserved-then-is_below c = record {
  low =
      omega (
        arith,
        is_before c.args.id.now c.args.rows.now (c.loop-low.low + (c.loop-low.high - c.loop-low.low) / 2) c.at.result c.is_below.result c.requires.rising
            (omega (arith, c.loop-low-test.true, c.loop-low.invariant.within)) c.at.ensures c.is_below.ensures c.if-is_below.true,
      );
  high = c.loop-low.invariant.high;
  within = c.loop-low.invariant.within;
}

pub loop-low-preserved : goal.loop-low-preserved
loop-low-preserved c = record {
  low = c.loop-low.invariant.low;
  high =
      not_before c.args.id.now c.args.rows.now (c.loop-low.low + (c.loop-low.high - c.loop-low.low) / 2) c.at.result c.is_below.result c.requires.rising
      (omega (arith, c.loop-low-test.true, c.loop-low.invariant.within)) c.at.ensures c.is_below.ensures c.if-is_below.false;
  within = omega (arith, c.loop-low-test.true, c.loop-low.invariant.within);
}
