use Rattle.std.proofs.Common.{◌≡◌, ◌-◌, ◌≤◌, ◌++◌, map, take, drop}
use Rattle.xl_rounds.specs.Rest.{AreKept}
use Rattle.xl_rounds.proofs.KeptLaws.{gone}
use Rattle.xl_rounds.proofs.kept.remove_marked.Given as goal

-- what stood at the places so far is gone, and the others are as they were
abbrev pub invariant-loop-place : goal.invariant-loop-place
invariant-loop-place l =
    (l.place ≤ 64) × (l.proposals ≡ map gone (take l.place l.fn.proposals) ++ drop l.place l.fn.proposals) × AreKept l.marks l.proposals

abbrev pub decreases-loop-place : goal.decreases-loop-place
decreases-loop-place l = 64 - l.place
