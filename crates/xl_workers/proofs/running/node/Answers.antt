-- the closed store's journal begins with what the run's pass had seen, and that pass has all of its places
use Rattle.std.proofs.Common.{ℕ, map, subst}
use Rattle.xl_turns.specs.Passes.{known}
use Rattle.xl_core.specs.Core.{Core}
use Rattle.xl_store.specs.declared.retention.Retention.{Retention}
use Rattle.xl_store.specs.Recording.{RecordsIf, all_batches}
use Rattle.xl_store.specs.Stores.{start_of, turns_of}
use Rattle.xl_heartbeat.specs.Outputs.{output}
use Rattle.xl_heartbeat.specs.Bulletins.{ToldIf}
use Rattle.xl_heartbeat.proofs.Telling.{still_told}
use Rattle.xl_workers.specs.Linking.{hub_seen, target_of}
use Rattle.xl_workers.specs.Sharing.{setting}
use Rattle.xl_workers.specs.Runs.{doing_of, NodeRun}
use Rattle.xl_workers.specs.Working.{Closes}
use Rattle.xl_workers.proofs.running.node.Goals as goal

pub returns-clause-run : goal.returns-clause-run
returns-clause-run g c =
    let store = c.in-Ok.opened.0 in
    let may = g.C.Clock.may_give c.args.host.now.clock.now in
    let gives = g.H.Hub.gives c.args.hub.now in
    let o1 = output (g.O.Sink.held c.args.sink.now) (g.O.Sink.faults c.args.sink.now) in
    let o2 = output (g.O.Sink.held c.live-end.new.sink) (g.O.Sink.faults c.live-end.new.sink) in
    let d = doing_of c.args.plan.submits.items (map target_of c.args.plan.contacts.items) c.args.plan.door c.args.plan.pulse
    (hub_seen (g.H.Hub.faults c.args.hub.now) (g.H.Hub.asked c.args.hub.now))
    (hub_seen (g.H.Hub.faults c.live-end.new.hub) (g.H.Hub.asked c.live-end.new.hub)) o1 o2 in
    let end = c.live-end.result.0 in
    let history = c.close-closed.result.journal in
    let close : Closes (turns_of store) (known c.live-end.result.1) history = record {
      begins = c.close-closed.ensures.begins;
      drawn = c.close-closed.ensures.drawn;
      limit = c.close-closed.ensures.limit;
    } in
    let run = c.live-end.ensures.lived.run history close c.close-closed.ensures.places in
    subst (λ (core : Core). NodeRun (setting core c.args.plan.turns may gives) d end history)
    c.in-Ok.ensures.start.0
    (subst (λ (turns : ℕ). NodeRun (setting (start_of store) turns may gives) d end history) c.in-Ok.ensures.limit run)

pub returns-clause-told : goal.returns-clause-told
returns-clause-told g c =
    let gives = g.D.Board.show_gives in
    let old = c.args.outlets.now.bulletin in
    let new = c.live-end.new.outlets.bulletin in
    let history = c.close-closed.result.journal in
    subst (λ (core : Core). ToldIf gives core old history new) c.in-Ok.ensures.start.0
    (still_told gives (start_of c.in-Ok.opened.0) old new (known c.live-end.result.1).seen history
    c.close-closed.ensures.begins c.live-end.ensures.told)

pub returns-clause-recorded : goal.returns-clause-recorded
returns-clause-recorded g c =
    let history = c.close-closed.result.journal in
    let close : Closes (turns_of c.in-Ok.opened.0) (known c.live-end.result.1) history = record {
      begins = c.close-closed.ensures.begins;
      drawn = c.close-closed.ensures.drawn;
      limit = c.close-closed.ensures.limit;
    } in
    subst (λ (retention : Retention).
    RecordsIf g.R.Recorder.records (all_batches retention history) c.args.outlets.now.recorder
    c.live-end.new.outlets.recorder) c.in-Ok.ensures.keeps
    (c.live-end.ensures.recorded history close c.close-closed.ensures.places)
