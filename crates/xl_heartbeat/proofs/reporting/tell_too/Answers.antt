-- the lines are of the reports that the store handed out, and what is told is of the core behind all that the pass has
-- then seen
use Rattle.std.proofs.Common.{refl, sym, subst, ◌∙◌}
use Rattle.xl_turns.specs.Passes.{known}
use Rattle.xl_store.specs.Stores.{start_of, turns_of}
use Rattle.xl_heartbeat.specs.Outputs.{output}
use Rattle.xl_heartbeat.specs.Beats.{TakesReports}
use Rattle.xl_heartbeat.specs.Bulletins.{Told}
use Rattle.xl_heartbeat.proofs.Pulses.{all_taken, some_written, not_taken}
use Rattle.xl_heartbeat.proofs.Telling.{told_now}
use Rattle.xl_heartbeat.proofs.Recording.{recorded_taken, recorded_refused}
use Rattle.xl_heartbeat.proofs.reporting.tell_too.Goals as goal

pub returns-in-Ok-write_reports-clause-takes : goal.returns-in-Ok-write_reports-clause-takes
returns-in-Ok-write_reports-clause-takes g c =
    all_taken c.args.store.now c.args.pass.now c.reports_and_status.new.pass
    (output (g.O.Sink.held c.args.sink.now) (g.O.Sink.faults c.args.sink.now))
    (output (g.O.Sink.held c.write_reports.new.sink) (g.O.Sink.faults c.write_reports.new.sink))
    c.in-Ok.handed.count _ c.reports_and_status.new.room c.in-Ok.ensures.called refl c.in-Ok-write_reports.ensures.adds

pub returns-in-Err-write_reports-clause-takes : goal.returns-in-Err-write_reports-clause-takes
returns-in-Err-write_reports-clause-takes g c =
    some_written c.args.store.now c.args.pass.now c.reports_and_status.new.pass
    (output (g.O.Sink.held c.args.sink.now) (g.O.Sink.faults c.args.sink.now))
    (output (g.O.Sink.held c.write_reports.new.sink) (g.O.Sink.faults c.write_reports.new.sink))
    c.in-Ok.handed.count _ c.reports_and_status.new.room c.in-Ok.ensures.called refl c.in-Err-write_reports.ensures.less

pub returns-in-Err-clause-takes : goal.returns-in-Err-clause-takes
returns-in-Err-clause-takes g c =
    let same = output (g.O.Sink.held c.args.sink.now) (g.O.Sink.faults c.args.sink.now) in
    let start = start_of c.args.store.now in
    let turns = turns_of c.args.store.now in
    subst (λ e. TakesReports start turns (known c.args.pass.now) same e (known c.reports_and_status.new.pass) same)
    (sym c.ending_of.ensures)
    (not_taken c.args.store.now c.args.pass.now c.reports_and_status.new.pass same c.in-Err.end c.in-Err.ensures.refused)

pub returns-in-Ok-write_reports-clause-told : goal.returns-in-Ok-write_reports-clause-told
returns-in-Ok-write_reports-clause-told g c first t =
    told_now g.D.Board.show_gives (start_of c.args.store.now) first (known c.args.pass.now).seen
    (known c.reports_and_status.new.pass).seen c.args.now c.args.bulletin.now c.tell.new.self c.in-Ok.status
    c.in-Ok.ensures.called.called.made.begins (sym c.is_due.ensures ∙ c.if-not-is_due.false) c.in-Ok.ensures.status c.tell.ensures t

pub returns-in-Err-write_reports-clause-told : goal.returns-in-Err-write_reports-clause-told
returns-in-Err-write_reports-clause-told g c first t =
    told_now g.D.Board.show_gives (start_of c.args.store.now) first (known c.args.pass.now).seen
    (known c.reports_and_status.new.pass).seen c.args.now c.args.bulletin.now c.tell.new.self c.in-Ok.status
    c.in-Ok.ensures.called.called.made.begins (sym c.is_due.ensures ∙ c.if-not-is_due.false) c.in-Ok.ensures.status c.tell.ensures t

pub returns-then-not-is_due-clause-told : goal.returns-then-not-is_due-clause-told
returns-then-not-is_due-clause-told g c first t =
    Told.goes_on (known c.args.pass.now).seen (known c.take_reports.new.pass).seen c.args.bulletin.now t
    c.take_reports.ensures.takes.made.begins

pub returns-in-Ok-write_reports-clause-recorded : goal.returns-in-Ok-write_reports-clause-recorded
returns-in-Ok-write_reports-clause-recorded g c =
    recorded_taken g.R.Recorder.records c.args.store.now c.args.pass.now c.reports_and_status.new.pass c.in-Ok.handed.count _
    c.reports_and_status.new.room c.in-Ok.handed.batch c.args.recorder.now c.hand_on.new.recorder c.in-Ok.ensures.called
    c.in-Ok.ensures.batch c.hand_on.ensures

pub returns-in-Err-write_reports-clause-recorded : goal.returns-in-Err-write_reports-clause-recorded
returns-in-Err-write_reports-clause-recorded g c =
    recorded_taken g.R.Recorder.records c.args.store.now c.args.pass.now c.reports_and_status.new.pass c.in-Ok.handed.count _
    c.reports_and_status.new.room c.in-Ok.handed.batch c.args.recorder.now c.hand_on.new.recorder c.in-Ok.ensures.called
    c.in-Ok.ensures.batch c.hand_on.ensures

pub returns-in-Err-clause-recorded : goal.returns-in-Err-clause-recorded
returns-in-Err-clause-recorded g c =
    recorded_refused g.R.Recorder.records c.args.store.now c.args.pass.now c.reports_and_status.new.pass c.in-Err.end
    c.args.recorder.now c.in-Err.ensures.refused
