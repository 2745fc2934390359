use Rattle.std.proofs.Common.{take}
use Rattle.xl_base.specs.Sets.{IsRising}
use Rattle.test_in_memory.proofs.rising.rises.Given as goal

-- the ids so far rise
abbrev pub invariant-loop-place : goal.invariant-loop-place
invariant-loop-place l = IsRising (take l.place l.ids)
