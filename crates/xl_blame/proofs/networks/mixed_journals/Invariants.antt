use Rattle.std.proofs.Common.{◌≡◌, ◌+◌, ◌++◌, drop}
use Rattle.xl_blame.specs.Networks.{mixed_in}
use Rattle.xl_blame.proofs.networks.mixed_journals.Given as goal

-- the pairs so far, and those that are to come
abbrev pub invariant-loop-place : goal.invariant-loop-place
invariant-loop-place l = l.found.items ++ mixed_in (l.place + 1) (drop l.place l.ended) ≡ mixed_in 1 l.ended
