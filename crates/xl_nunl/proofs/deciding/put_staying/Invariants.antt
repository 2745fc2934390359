use Rattle.std.proofs.Common.{◌≡◌, ◌≤◌, take}
use Rattle.xl_nunl.specs.Lists.{staying_up_to}
use Rattle.xl_nunl.specs.Deciding.{negative_after}
use Rattle.xl_nunl.proofs.deciding.put_staying.Given as goal

-- those of the numbers so far that stay are at the front
abbrev pub invariant-loop-below : goal.invariant-loop-below
invariant-loop-below l = record {
  behind : l.len ≤ l.below;
  put : take l.len l.room ≡ staying_up_to l.full.members (negative_after l.negative l.left l.joined) l.below;
}
