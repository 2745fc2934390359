use Rattle.xl_ledger.specs.Walks.{GoesOn}
use Rattle.xl_ledger.proofs.Climbing.{AreApart, IsFew}
use Rattle.xl_ledger.proofs.walk.Walk.meet.Given as goal

abbrev pub invariant-loop-level : goal.invariant-loop-level
invariant-loop-level l = record {
  apart : AreApart l.fn.self.ledgers.headers l.fn.a l.fn.b l.left l.right l.level;
  few : IsFew l.fn.self.ledgers.headers l.fn.self.taken l.self.taken l.left l.level;
  goes_on : GoesOn l.fn.self l.self;
}

abbrev pub decreases-loop-level : goal.decreases-loop-level
decreases-loop-level l = l.level
