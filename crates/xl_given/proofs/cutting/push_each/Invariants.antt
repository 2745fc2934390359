use Rattle.std.proofs.Common.{◌≡◌, ◌≤◌, ◌-◌, ◌++◌, drop, length}
use Rattle.xl_given.specs.Cutting.{noted_from}
use Rattle.xl_given.proofs.cutting.push_each.Given as goal

-- the frames so far, and those that stand behind them
abbrev pub invariant-loop-frame : goal.invariant-loop-frame
invariant-loop-frame l = record {
  within : l.at ≤ length l.bytes;
  frames : l.frames ++ noted_from l.member l.journal l.entry (drop l.at l.bytes)
      ≡ l.initial.frames ++ noted_from l.member l.journal l.entry l.bytes;
}

abbrev pub decreases-loop-frame : goal.decreases-loop-frame
decreases-loop-frame l = length l.bytes - l.at
