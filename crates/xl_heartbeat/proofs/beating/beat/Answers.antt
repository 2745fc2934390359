-- a heartbeat starts with its own list and nothing done, each beat that isn't the last goes on from there, and behind the
-- last comes the stop
use Rattle.std.proofs.Common.{sym, subst}
use Rattle.xl_turns.specs.Passes.{known}
use Rattle.xl_store.specs.Stores.{start_of, turns_of, retention_of}
use Rattle.xl_heartbeat.specs.Outputs.{output}
use Rattle.xl_heartbeat.specs.Beats.{Phase}
use Rattle.xl_heartbeat.specs.Going.{Beating}
use Rattle.xl_heartbeat.proofs.Pulses.{beating_starts, finished}
use Rattle.xl_heartbeat.proofs.Telling.{untold, still_told}
use Rattle.xl_heartbeat.proofs.Recording.{recorded_both, recorded_quiet, recorded_same, quiet_stop}
use Rattle.xl_heartbeat.proofs.beating.beat.Goals as goal

pub loop-init : goal.loop-init
loop-init g c = record {
  pass = c.requires.pass;
  far =
      let may = g.C.Clock.may_give c.args.clock.now in
      let start = start_of c.args.store.now in
      let old = known c.args.pass.now in
      let before = output (g.O.Sink.held c.args.sink.now) (g.O.Sink.faults c.args.sink.now) in
      subst (λ standing. Beating start may c.args.pulse.now old before (Phase.Beats standing) old before)
      (sym c.of.ensures)
      (beating_starts start (turns_of c.args.store.now) may c.args.pulse.now old before);
  told = untold g.D.Board.show_gives (start_of c.args.store.now) c.args.outlets.bulletin (known c.args.pass.now).seen;
  recorded = recorded_same g.R.Recorder.records (retention_of c.args.store.now) (start_of c.args.store.now)
      (known c.args.pass.now) c.args.outlets.recorder;
}

pub loop-preserved : goal.loop-preserved
loop-preserved g c = record {
  pass = c.in_default.ensures.pass;
  far = c.in_default.ensures.follows _ _ c.loop.invariant.far;
  told = c.in_default.ensures.told _ c.loop.invariant.told;
  recorded = recorded_both g.R.Recorder.records (retention_of c.args.store.now) (start_of c.args.store.now)
      (known c.args.pass.now) (known c.loop.pass) (known c.beat_once.new.pass) c.args.outlets.recorder
      c.loop.progress.outlets.recorder c.beat_once.new.progress.outlets.recorder c.loop.invariant.recorded
      c.in_default.ensures.recorded;
}

pub returns-in-Some-beat_once-clause-heartbeat : goal.returns-in-Some-beat_once-clause-heartbeat
returns-in-Some-beat_once-clause-heartbeat g c =
    finished (start_of c.args.store.now) (turns_of c.args.store.now) (g.C.Clock.may_give c.args.clock.now) c.args.pulse.now
    (known c.args.pass.now) (output (g.O.Sink.held c.args.sink.now) (g.O.Sink.faults c.args.sink.now))
    (record { run = c.in-Some-beat_once.run'; stop = c.tell_to_stop-stop.result })
    (known c.beat_once.new.pass) (known c.tell_to_stop-stop.new.pass)
    (output (g.O.Sink.held c.beat_once.new.sink) (g.O.Sink.faults c.beat_once.new.sink))
    (c.in-Some-beat_once.ensures.follows _ _ c.loop.invariant.far) c.tell_to_stop-stop.ensures.stops

pub returns-in-Some-beat_once-clause-told : goal.returns-in-Some-beat_once-clause-told
returns-in-Some-beat_once-clause-told g c =
    still_told g.D.Board.show_gives (start_of c.args.store.now) c.args.outlets.bulletin c.beat_once.new.progress.outlets.bulletin
    (known c.beat_once.new.pass).seen (known c.tell_to_stop-stop.new.pass).seen
    c.tell_to_stop-stop.ensures.stops.made.begins
    (c.in-Some-beat_once.ensures.told c.args.outlets.bulletin c.loop.invariant.told)

pub returns-in-Some-beat_once-clause-recorded : goal.returns-in-Some-beat_once-clause-recorded
returns-in-Some-beat_once-clause-recorded g c =
    let records = g.R.Recorder.records in
    let start = start_of c.args.store.now in
    let retention = retention_of c.args.store.now in
    let old = known c.args.pass.now in
    let mid = known c.beat_once.new.pass in
    let new = known c.tell_to_stop-stop.new.pass in
    let recorder = c.beat_once.new.progress.outlets.recorder in
    recorded_both records retention start old mid new c.args.outlets.recorder recorder recorder
    (recorded_both records retention start old (known c.loop.pass) mid c.args.outlets.recorder
    c.loop.progress.outlets.recorder recorder c.loop.invariant.recorded c.in-Some-beat_once.ensures.recorded)
    (recorded_quiet records retention start mid new _ recorder c.tell_to_stop-stop.ensures.stops.made
    (quiet_stop c.tell_to_stop-stop.result))
