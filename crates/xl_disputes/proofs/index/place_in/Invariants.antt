use Rattle.std.proofs.Common.{◌-◌, ◌≤◌, length}
use Rattle.xl_disputes.specs.Rows.{place_of}
use Rattle.xl_disputes.proofs.index.place_in.Given as goal

-- the place is between the two
abbrev pub invariant-loop-low : goal.invariant-loop-low
invariant-loop-low l = record {
  low : l.low ≤ place_of l.id l.rows;
  high : place_of l.id l.rows ≤ l.high;
  within : l.high ≤ length l.rows;
}

abbrev pub decreases-loop-low : goal.decreases-loop-low
decreases-loop-low l = l.high - l.low
