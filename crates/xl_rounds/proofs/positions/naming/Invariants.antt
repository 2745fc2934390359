use Rattle.std.proofs.Common.{◌≡◌, ◌-◌, ◌≤◌, take}
use Rattle.std.specs.Prelude.{count_by}
use Rattle.xl_rounds.specs.Positions.{names}
use Rattle.xl_rounds.proofs.positions.naming.Given as goal

-- those of the positions so far are counted
abbrev pub invariant-loop-place : goal.invariant-loop-place
invariant-loop-place l = (l.place ≤ 64) × (l.count ≡ count_by (names l.id) (take l.place l.members))

abbrev pub decreases-loop-place : goal.decreases-loop-place
decreases-loop-place l = 64 - l.place
