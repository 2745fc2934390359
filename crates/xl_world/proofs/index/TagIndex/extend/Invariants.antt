use Rattle.std.proofs.Common.{◌+◌, ◌-◌, ◌≤◌, length, cond}
use Rattle.xl_world.specs.Indexes.{IsIndex}
use Rattle.xl_world.proofs.index.TagIndex.extend.Given as goal

abbrev pub invariant-loop-self : goal.invariant-loop-self
invariant-loop-self l = record {
  index : IsIndex l.self l.sent;
  later : l.initial.self.indexed ≤ l.self.indexed;
}

-- the frames that are left, and whether it isn't given up yet
abbrev pub decreases-loop-self : goal.decreases-loop-self
decreases-loop-self l = (length l.sent - l.self.indexed) + cond l.self.given_up 0 1
