use Rattle.xl_turns.specs.Passes.{known}
use Rattle.xl_store.specs.Stores.{start_of, retention_of, IsOf}
use Rattle.xl_heartbeat.specs.Outputs.{output}
use Rattle.xl_heartbeat.specs.Beats.Phase.{Beats}
use Rattle.xl_heartbeat.specs.Bulletins.{ToldIf}
use Rattle.xl_heartbeat.specs.Recording.{Recorded}
use Rattle.xl_heartbeat.specs.Going.{Beating}
use Rattle.xl_heartbeat.proofs.beating.beat.Given as goal

abbrev pub invariant-loop : goal.invariant-loop
invariant-loop g l = record {
  pass : IsOf l.store l.pass;
  far : Beating (start_of l.store) (g.C.Clock.may_give l.clock) l.pulse
      (known l.initial.pass) (output (g.O.Sink.held l.initial.sink) (g.O.Sink.faults l.initial.sink))
      (Beats l.progress.standing)
      (known l.pass) (output (g.O.Sink.held l.sink) (g.O.Sink.faults l.sink));
  told : ToldIf g.D.Board.show_gives (start_of l.store) l.fn.outlets.bulletin (known l.pass).seen l.progress.outlets.bulletin;
  recorded : Recorded g.R.Recorder.records (retention_of l.store) (start_of l.store) (known l.initial.pass) (known l.pass)
      l.fn.outlets.recorder l.progress.outlets.recorder;
}
