use Rattle.std.proofs.Common.{◌≡◌, ◌≤◌, length}
use Rattle.xl_io.proofs.Growing.{Written}
use Rattle.xl_io.proofs.sink.write_all.Given as goal

abbrev pub invariant-loop-rest : goal.invariant-loop-rest
invariant-loop-rest g l = record {
  written : Written (g.K.Sink.held l.initial.sink) (g.K.Sink.held l.sink) l.bytes l.rest;
  later : g.K.Sink.faults l.initial.sink ≤ g.K.Sink.faults l.sink;
  exact : g.K.Sink.faults l.sink ≡ g.K.Sink.faults l.initial.sink;
}

abbrev pub decreases-loop-rest : goal.decreases-loop-rest
decreases-loop-rest g l = length l.rest
