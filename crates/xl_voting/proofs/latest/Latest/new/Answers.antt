use Rattle.std.proofs.Common.{arith}
use Rattle.xl_voting.proofs.Tallies.{none_counted}
use Rattle.xl_voting.proofs.latest.Latest.new.Goals as goal

pub invariant_of-result : goal.invariant_of-result
invariant_of-result c = none_counted 0 (omega arith)
