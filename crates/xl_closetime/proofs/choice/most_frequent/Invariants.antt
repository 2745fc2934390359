use Rattle.std.proofs.Common.{take}
use Rattle.xl_closetime.specs.Frequent.{IsMostFrequent}
use Rattle.xl_closetime.proofs.choice.most_frequent.Given as goal

-- it is the most frequent of the times so far
abbrev pub invariant-loop-time : goal.invariant-loop-time
invariant-loop-time l = IsMostFrequent l.times (take l.time-index l.times) l.most
