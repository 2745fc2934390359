use Rattle.std.specs.Prelude.{◌≡◌, ◌++◌, drop, map}
use Rattle.std.specs.Map.Iter.{deref}
use Rattle.xl_forks.specs.Forks.{fork_seen}
use Rattle.xl_forks.specs.Kept.{forks_with, two_kept}
use Rattle.xl_forks.proofs.fork.push_forks_of.Given as goal

-- what was found, and the forks with the reports that are left
abbrev pub invariant-loop-other : goal.invariant-loop-other
invariant-loop-other l =
    map fork_seen l.found.items ++ forks_with (two_kept l.words) l.one (map deref (drop l.other-index l.behind))
    ≡ map fork_seen l.initial.found.items ++ forks_with (two_kept l.words) l.one (map deref l.behind)
