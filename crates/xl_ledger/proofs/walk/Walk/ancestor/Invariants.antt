use Rattle.xl_ledger.specs.Chains.{seq_at}
use Rattle.xl_ledger.proofs.Climbing.{Climbs}
use Rattle.xl_ledger.proofs.walk.Walk.ancestor.Given as goal

abbrev pub invariant-loop-self : goal.invariant-loop-self
invariant-loop-self l = Climbs l.fn.self l.self l.fn.ledger l.seq l.at

abbrev pub decreases-loop-self : goal.decreases-loop-self
decreases-loop-self l = seq_at l.fn.self.ledgers.headers l.at
