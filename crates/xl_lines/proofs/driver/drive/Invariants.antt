use Rattle.std.proofs.Common.{◌≡◌}
use Rattle.xl_lines.proofs.Runs.{Runs}
use Rattle.xl_lines.proofs.Soon.{RunsSoon}
use Rattle.xl_lines.proofs.driver.drive.Given as goal

abbrev pub invariant-loop-count : goal.invariant-loop-count
invariant-loop-count g l = record {
  runs : Runs (g.I.Source.left l.initial.input) (g.I.Source.left l.input) (g.O.Sink.held l.initial.output) (g.O.Sink.held l.output) (g.T.Teller.tells l.initial.teller) (g.T.Teller.tells l.teller);
  soon : RunsSoon (g.I.Source.left l.initial.input) (g.I.Source.left l.input) (g.O.Sink.held l.initial.output) (g.O.Sink.held l.output) (g.T.Teller.soon l.initial.teller) (g.T.Teller.soon l.teller);
  reads : g.I.Source.faults l.input ≡ g.I.Source.faults l.initial.input;
  writes : g.O.Sink.faults l.output ≡ g.O.Sink.faults l.initial.output;
}

abbrev pub decreases-loop-count : goal.decreases-loop-count
decreases-loop-count g l = g.T.Teller.to_come l.teller
