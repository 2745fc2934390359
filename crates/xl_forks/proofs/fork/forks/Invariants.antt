use Rattle.std.specs.Prelude.{◌≡◌, ◌++◌, ◌<◌, ◌^◌, drop, map, take, All}
use Rattle.std.specs.Map.Iter.{deref}
use Rattle.xl_forks.specs.Forks.{fork_seen}
use Rattle.xl_forks.specs.Kept.{two_kept}
use Rattle.xl_forks.proofs.Walking.{walk}
use Rattle.xl_forks.proofs.fork.forks.Given as goal

-- what was found, and the walk over the reports that are left
abbrev pub invariant-loop-place : goal.invariant-loop-place
invariant-loop-place l = record {
  walked : map fork_seen l.found.items ++ walk (two_kept l.words) (map deref (drop l.place l.one-items)) ≡ walk (two_kept l.words) (map deref l.one-items);
  numbers : All (λ b. b.now.seq < 2 ^ 32) (take l.place l.one-items);
}
