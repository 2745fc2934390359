use Rattle.std.proofs.Common.{length}
use Rattle.xl_workers.proofs.Joins.{SomeJoined}
use Rattle.xl_workers.proofs.joining.join_all.Given as goal

abbrev pub invariant-loop-rest : goal.invariant-loop-rest
invariant-loop-rest g l = SomeJoined l.store l.fn.first l.fn.workers.items l.pass l.rest.items

abbrev pub decreases-loop-rest : goal.decreases-loop-rest
decreases-loop-rest g l = length l.rest.items
