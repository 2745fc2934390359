use Rattle.std.proofs.Common.{◌≡◌, ◌++◌, map, take, drop}
use Rattle.xl_queues.specs.Broadcasts.{counted_anew}
use Rattle.xl_queues.proofs.broadcast.count_anew.Given as goal

-- the readers so far are counted anew, and the others are as they were
abbrev pub invariant-loop-reader : goal.invariant-loop-reader
invariant-loop-reader l = l.readers ≡ map (counted_anew l.held l.pushed) (take l.reader-index l.initial.readers) ++ drop l.reader-index l.initial.readers
