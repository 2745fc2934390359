use Rattle.std.specs.Prelude.{◌≡◌, map, take}
use Rattle.std.specs.Map.Iter.{deref}
use Rattle.xl_forks.proofs.fork.by_seq.Given as goal

-- the first reports
abbrev pub invariant-loop-report : goal.invariant-loop-report
invariant-loop-report l = map deref l.sorted.items ≡ take l.report-index l.reported
