-- the lines are of the reports that the store handed out, all or a front, and without a turn nothing was taken
use Rattle.std.proofs.Common.{refl, sym, subst}
use Rattle.xl_turns.specs.Passes.{known}
use Rattle.xl_store.specs.Stores.{start_of, turns_of}
use Rattle.xl_heartbeat.specs.Outputs.{output}
use Rattle.xl_heartbeat.specs.Beats.{TakesReports}
use Rattle.xl_heartbeat.proofs.Pulses.{all_taken, some_written, not_taken}
use Rattle.xl_heartbeat.proofs.Recording.{recorded_taken, recorded_refused}
use Rattle.xl_heartbeat.proofs.reporting.take_reports.Goals as goal

pub returns-in-Ok-write_reports-clause-takes : goal.returns-in-Ok-write_reports-clause-takes
returns-in-Ok-write_reports-clause-takes g c =
    all_taken c.args.store.now c.args.pass.now c.reports.new.pass
    (output (g.O.Sink.held c.args.sink.now) (g.O.Sink.faults c.args.sink.now))
    (output (g.O.Sink.held c.write_reports.new.sink) (g.O.Sink.faults c.write_reports.new.sink))
    c.in-Ok.handed.count _ c.reports.new.room c.in-Ok.ensures.called refl c.in-Ok-write_reports.ensures.adds

pub returns-in-Err-write_reports-clause-takes : goal.returns-in-Err-write_reports-clause-takes
returns-in-Err-write_reports-clause-takes g c =
    some_written c.args.store.now c.args.pass.now c.reports.new.pass
    (output (g.O.Sink.held c.args.sink.now) (g.O.Sink.faults c.args.sink.now))
    (output (g.O.Sink.held c.write_reports.new.sink) (g.O.Sink.faults c.write_reports.new.sink))
    c.in-Ok.handed.count _ c.reports.new.room c.in-Ok.ensures.called refl c.in-Err-write_reports.ensures.less

pub returns-in-Err-clause-takes : goal.returns-in-Err-clause-takes
returns-in-Err-clause-takes g c =
    let same = output (g.O.Sink.held c.args.sink.now) (g.O.Sink.faults c.args.sink.now) in
    let start = start_of c.args.store.now in
    let turns = turns_of c.args.store.now in
    subst (λ e. TakesReports start turns (known c.args.pass.now) same e (known c.reports.new.pass) same)
    (sym c.ending_of.ensures)
    (not_taken c.args.store.now c.args.pass.now c.reports.new.pass same c.in-Err.end c.in-Err.ensures.refused)

pub returns-in-Ok-write_reports-clause-recorded : goal.returns-in-Ok-write_reports-clause-recorded
returns-in-Ok-write_reports-clause-recorded g c =
    recorded_taken g.R.Recorder.records c.args.store.now c.args.pass.now c.reports.new.pass c.in-Ok.handed.count _
    c.reports.new.room c.in-Ok.handed.batch c.args.recorder.now c.hand_on.new.recorder c.in-Ok.ensures.called
    c.in-Ok.ensures.batch c.hand_on.ensures

pub returns-in-Err-write_reports-clause-recorded : goal.returns-in-Err-write_reports-clause-recorded
returns-in-Err-write_reports-clause-recorded g c =
    recorded_taken g.R.Recorder.records c.args.store.now c.args.pass.now c.reports.new.pass c.in-Ok.handed.count _
    c.reports.new.room c.in-Ok.handed.batch c.args.recorder.now c.hand_on.new.recorder c.in-Ok.ensures.called
    c.in-Ok.ensures.batch c.hand_on.ensures

pub returns-in-Err-clause-recorded : goal.returns-in-Err-clause-recorded
returns-in-Err-clause-recorded g c =
    recorded_refused g.R.Recorder.records c.args.store.now c.args.pass.now c.reports.new.pass c.in-Err.end
    c.args.recorder.now c.in-Err.ensures.refused
