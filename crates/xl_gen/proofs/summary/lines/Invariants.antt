-- the lines of the seconds before this one are counted, and there are six a second at most
use Rattle.std.proofs.Common.{◌≡◌, ◌≤◌, ◌+◌, ◌-◌, ◌*◌, length}
use Rattle.std.specs.List.{flat_map}
use Rattle.xl_world.specs.Plans.{up_from}
use Rattle.xl_gen.specs.Schedule.{second_lines}
use Rattle.xl_gen.proofs.summary.lines.Given as goal

abbrev pub invariant-loop-second : goal.invariant-loop-second
invariant-loop-second l = (l.count ≡ 9 + length (flat_map second_lines (up_from 1 (l.second - 1)))) × (l.count ≤ 9 + 6 * (l.second - 1))
