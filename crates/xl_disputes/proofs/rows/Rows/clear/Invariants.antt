use Rattle.std.proofs.Common.{◌≡◌, ◌≤◌, length, take}
use Rattle.xl_disputes.proofs.rows.Rows.clear.Given as goal

-- so many rows are left, the first ones
abbrev pub invariant-loop-left : goal.invariant-loop-left
invariant-loop-left l = record {
  first : l.self ≡ take l.left l.fn.self;
  within : l.left ≤ length l.fn.self;
}

abbrev pub decreases-loop-left : goal.decreases-loop-left
decreases-loop-left l = l.left
