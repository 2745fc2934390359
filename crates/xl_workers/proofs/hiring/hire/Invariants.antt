use Rattle.std.proofs.Common.{◌≤◌, length}
use Rattle.std.specs.Vec.{vec_capacity}
use Rattle.xl_workers.specs.Hiring.{Hired}
use Rattle.xl_workers.proofs.hiring.hire.Given as goal

abbrev pub invariant-loop-rest : goal.invariant-loop-rest
invariant-loop-rest g l = record {
  hired : Hired l.store l.fn.first l.fn.peers.items l.pass l.rest.items l.workers.items;
  room : length l.fn.peers.items ≤ vec_capacity l.workers;
}

abbrev pub decreases-loop-rest : goal.decreases-loop-rest
decreases-loop-rest g l = length l.rest.items
