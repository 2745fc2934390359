use Rattle.std.proofs.Common.{arith}
use Rattle.xl_voting.proofs.Tallies.{count_fits}
use Rattle.xl_voting.proofs.latest.Latest.report.Goals as goal

pub overflow_add-self : goal.overflow_add-self
overflow_add-self c = omega (arith, count_fits c.self.inside.seqs c.self.inside.count c.self.invariant)
