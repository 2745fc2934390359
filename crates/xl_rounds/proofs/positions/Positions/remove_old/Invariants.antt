use Rattle.std.proofs.Common.{◌≡◌, ◌++◌, ◌-◌, ◌≤◌, map, take, drop}
use Rattle.xl_rounds.specs.Positions.{unless_old}
use Rattle.xl_rounds.proofs.positions.Positions.remove_old.Given as goal

-- the positions so far stand if they aren't old, and the others as they were
abbrev pub invariant-loop-place : goal.invariant-loop-place
invariant-loop-place l =
    (l.place ≤ 64)
    × (l.self ≡ record l.fn.self { members = map (unless_old l.now) (take l.place l.fn.self.members) ++ drop l.place l.fn.self.members })

abbrev pub decreases-loop-place : goal.decreases-loop-place
decreases-loop-place l = 64 - l.place
