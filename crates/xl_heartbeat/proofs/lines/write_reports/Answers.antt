use Rattle.xl_heartbeat.specs.Outputs.{output}
use Rattle.xl_heartbeat.proofs.Writing.{less_at}
use Rattle.xl_heartbeat.proofs.lines.write_reports.Goals as goal

pub returns-in-Err-clause-less : goal.returns-in-Err-clause-less
returns-in-Err-clause-less g c =
    less_at c.args.reports.now c.loop-report.report-index _ c.loop-report-test.true
    (output (g.O.Sink.held c.args.sink.now) (g.O.Sink.faults c.args.sink.now))
    (output (g.O.Sink.held c.loop-report.sink) (g.O.Sink.faults c.loop-report.sink))
    (output (g.O.Sink.held c.write_report.new.sink) (g.O.Sink.faults c.write_report.new.sink))
    c.loop-report.invariant c.in-Err.ensures.less
