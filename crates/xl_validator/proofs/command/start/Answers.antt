-- the core opens at the number that the keeper gave, and its run's history is legal, so it can be written as it was
use Rattle.std.proofs.Common.{◌≡◌, Bool, true, None, refl, ap, sym, inl, inr, ◌∙◌, length}
use Rattle.std.specs.Prelude.{is_some}
use Rattle.std.proofs.lemmas.Result.{on_err_weaker}
use Rattle.xl_heartbeat.specs.declared.outlets.Outlets.{Outlets}
use Rattle.xl_heartbeat.specs.Outputs.{Output, output}
use Rattle.xl_recorder.specs.declared.file_recorder.FileRecorder.{FileRecorder}
use Rattle.xl_audit.specs.Rereading.{SaysYes}
use Rattle.xl_base.specs.declared.status.Status.TheVariants as status
use Rattle.xl_workers.specs.Linking.{hub_seen}
use Rattle.xl_workers.specs.Runs.{doing_of, status_of_end}
use Rattle.xl_workers.specs.Sharing.{setting}
use Rattle.xl_validator.specs.Openings.{Task}
use Rattle.xl_validator.specs.Preparing.{task_in}
use Rattle.xl_validator.specs.Recordings.{IsWritten, is_written}
use Rattle.xl_validator.specs.Following.{end_by, retention_by, status_with}
use Rattle.xl_validator.specs.Validators.{between}
use Rattle.xl_validator.specs.declared.recording.Recording.{Recording}
use Rattle.xl_validator.proofs.Behind.{ends, legal_there, text_there, legal_of}
use Rattle.xl_validator.proofs.Filed.{by_file, follows_first, follows_unread, kept_there, no_recorder}
use Rattle.xl_validator.proofs.Leaving.{leaves_by}
use Rattle.xl_validator.proofs.Statuses.{keeps_memory, run_is}
use Rattle.xl_validator.proofs.Told.{failing, of_either, of_none}
use Rattle.xl_validator.proofs.command.start.Goals as goal

pub recorded-run-requires : goal.recorded-run-requires
recorded-run-requires g c =
    let old = c.args.output.now in
    let new = c.node-ran.new.sink in
    let core = c.in-Ok-prepare.field-0.core in
    let task = task_in c.in-Ok-prepare.field-0.plan in
    let made = c.recording_of-recording in
    let left = c.left_by-left in
    let ran = c.node-ran.ensures in
    let outside = between (hub_seen (g.H.Hub.faults c.args.hub.now) (g.H.Hub.asked c.args.hub.now))
    (hub_seen (g.H.Hub.faults c.node-ran.new.hub) (g.H.Hub.asked c.node-ran.new.hub))
    (g.O.Sink.held old) (g.O.Sink.faults old) (g.O.Sink.held new) (g.O.Sink.faults new) in
    let leaves = leaves_by g.K.Keeper.held g.K.Keeper.saves g.K.Keeper.faults g.K.Keeper.save_gives core task
    (g.C.Clock.may_give c.args.host.now.clock.now) (g.H.Hub.gives c.args.hub.now) outside old new
    c.load.new.self left.result.0.keeper left.result.0.status left.result.0.journal
    (c.node-ran.new.hub ≡ c.args.hub.now)
    (λ same. ap (λ h. hub_seen (g.H.Hub.faults h) (g.H.Hub.asked h)) same) c.node-ran.result (λ r. r.end) (λ r. r.closed.core) (λ r. r.closed.keeper) (λ r. r.closed.journal)
    (λ s. s.core) (λ s. s.keeper)
    left.ensures.status left.ensures.keeper left.ensures.journal
    ran.legal ran.run ran.keeper ran.limit ran.spared ran.nothing in
    record {
      legal = legal_there (λ (r : Recording). r.settings) (λ (r : Recording). r.now) (λ (r : Recording). r.kept)
          c.args.judged.settings c.args.judged.now c.in-Ok.kept made.result left.result.0.journal core
          c.in-Ok-prepare.ensures.core made.ensures.settings made.ensures.now made.ensures.kept
          (legal_of g.K.Keeper.held g.K.Keeper.saves g.K.Keeper.faults g.K.Keeper.save_gives core task
          (g.C.Clock.may_give c.args.host.now.clock.now) (g.H.Hub.gives c.args.hub.now) outside
          c.load.new.self left.result.0.keeper left.result.0.status left.result.0.journal leaves.goes);
      opened = leaves.opened;
      kept = λ asked.
          let s = c.args.judged.settings in
          let behind : s.journal ≡ true = sym made.ensures.asked ∙ asked in
          kept_there c.node-ran.result (λ r. r.closed.left) (λ r. r.closed.journal)
          left.result.1 c.record_left-entries.result left.result.0.journal c.in-Ok-prepare.field-0.plan.retention
          left.ensures.left left.ensures.journal ran.kept
          (c.in-Ok-prepare.ensures.keeps ∙ ap (λ (b : Bool). retention_by b (is_some s.journal_file)) behind)
          (c.record_left-entries.ensures.entries
          (no_recorder g.J.Sink.held g.J.Sink.faults s c.args.judged.now c.in-Ok.kept
          c.node-ran.result (λ r. r.closed.journal) c.in-Ok-prepare.field-0.plan.retention c.args.reached.file
          c.recorder_of-recorder.result c.node-ran.new.outlets.recorder c.requires.file c.requires.runnable.apart behind
          c.recorder_of-recorder.ensures ran.recorded
          (on_err_weaker c.node-ran.result (λ same. ap (λ o. o.recorder) same) ran.untold)));
    }

pub returns-in-Ok-prepare : goal.returns-in-Ok-prepare
returns-in-Ok-prepare g c =
    let shown : g.row.O.Denot → Output = λ o. output (g.O.Sink.held o) (g.O.Sink.faults o) in
    let old = c.args.output.now in
    let new = c.node-ran.new.sink in
    let old_hub = hub_seen (g.H.Hub.faults c.args.hub.now) (g.H.Hub.asked c.args.hub.now) in
    let new_hub = hub_seen (g.H.Hub.faults c.node-ran.new.hub) (g.H.Hub.asked c.node-ran.new.hub) in
    let core = c.in-Ok-prepare.field-0.core in
    let task = task_in c.in-Ok-prepare.field-0.plan in
    let made = c.recording_of-recording in
    let left = c.left_by-left in
    let ran = c.node-ran.ensures in
    let done = c.recorded-run in
    let s = c.args.judged.settings in
    let leaves = leaves_by g.K.Keeper.held g.K.Keeper.saves g.K.Keeper.faults g.K.Keeper.save_gives core task
    (g.C.Clock.may_give c.args.host.now.clock.now) (g.H.Hub.gives c.args.hub.now)
    (between old_hub new_hub (g.O.Sink.held old) (g.O.Sink.faults old) (g.O.Sink.held new) (g.O.Sink.faults new)) old new
    c.load.new.self left.result.0.keeper left.result.0.status left.result.0.journal
    (c.node-ran.new.hub ≡ c.args.hub.now)
    (λ same. ap (λ h. hub_seen (g.H.Hub.faults h) (g.H.Hub.asked h)) same) c.node-ran.result (λ r. r.end) (λ r. r.closed.core) (λ r. r.closed.keeper) (λ r. r.closed.journal)
    (λ s. s.core) (λ s. s.keeper)
    left.ensures.status left.ensures.keeper left.ensures.journal
    ran.legal ran.run ran.keeper ran.limit ran.spared ran.nothing in
    let there = text_there (λ (r : Recording). r.settings) (λ (r : Recording). r.now) (λ (r : Recording). r.kept)
    c.args.judged.settings c.args.judged.now c.in-Ok.kept (λ (r : Recording). r.with_keys) in
    let all =
    ends g.K.Keeper.held g.K.Keeper.saves g.K.Keeper.faults g.K.Keeper.load_gives g.K.Keeper.save_gives
    c.args.judged.settings c.args.judged.now c.in-Ok.kept
    (g.C.Clock.may_give c.args.host.now.clock.now) (g.H.Hub.gives c.args.hub.now)
    old_hub new_hub (shown old) (shown new) (shown done.new.sink)
    old new done.new.sink
    c.args.keeper c.load.new.self left.result.0.keeper done.result.keeper left.result.0.status done.result.status
    left.result.0.journal done.result.journal
    core task c.in-Ok-prepare.ensures.core c.in-Ok-prepare.ensures.task
    c.in-Ok-prepare.ensures.keyed
    (record {
      held = c.in-Ok.ensures.loaded;
      alone = c.in-Ok.ensures.alone;
      saves = c.load.ensures.saves;
      gives = c.in-Ok.ensures.gives;
      later = c.load.ensures.later;
    })
    leaves done.ensures.keeper
    (is_some made.result) made.ensures.asked
    done.ensures.left (λ same. ap shown same) done.ensures.none done.ensures.some
    (λ yes. there (λ _ text _. IsWritten text left.result.0.status done.result.status (shown new) (shown done.new.sink))
    made.result left.result.0.journal left.result.0.status yes made.ensures.settings made.ensures.now made.ensures.kept made.ensures.with_keys
    (done.ensures.written yes))
    (λ yes over. there (λ keys text history. keys ≡ true → SaysYes text (length history))
    made.result left.result.0.journal left.result.0.status yes made.ensures.settings made.ensures.now made.ensures.kept made.ensures.with_keys
    (done.ensures.yes yes over)) in
    record {
      ran = all.runs;
      unopened = all.unopened;
      known = all.known;
      write = all.write;
      keeper = λ fault. absurd (all.keeper fault);
      net = all.net;
      told = λ end last with_it ends.
          let w = end_by c.record_left-entries.new.recorder in
          of_either g.D.Board.show_gives old_hub new_hub s c.args.judged.now done.result.journal end done.result.unmade
          c.in-Ok.kept c.node-ran.result (λ r. r.closed.journal) (λ r. r.closed.core) (λ r. status_of_end r.end) core
          c.args.reached.bulletin c.node-ran.new.outlets.bulletin last c.status_left-last.result
          left.result.0.journal (is_some made.result) left.result.0.status done.result.status
          w c.in-Ok-prepare.ensures.core ran.life ran.told (on_err_weaker {Q = c.node-ran.new.outlets.bulletin ≡ c.args.reached.bulletin} c.node-ran.result
          (λ same. ap (λ (o : Outlets g.row.D.Denot (FileRecorder g.row.J.Denot)). o.bulletin) same) ran.untold)
          c.status_left-last.ensures left.ensures.journal
          left.ensures.status done.ensures.left done.ensures.none with_it
          (failing s (setting core task.turns (g.C.Clock.may_give c.args.host.now.clock.now) (g.H.Hub.gives c.args.hub.now))
          (doing_of task.submits task.targets task.door task.pulse old_hub new_hub (shown old) (shown new))
          c.node-ran.result (λ r. r.end) (λ r. r.closed.journal) end left.result.0.status left.result.0.unmade
          done.result.unmade (ap (λ (t : Task). t.targets) c.in-Ok-prepare.ensures.task)
          (ap (λ (t : Task). t.door) c.in-Ok-prepare.ensures.task) left.ensures.status left.ensures.unmade ran.run
          done.ensures.unmade
          (λ net. all.failed (run_is w done.result.status end status.NetFault with_it (λ no. cc) (λ no. cc) net)))
          ends;
      follows = by_file g.J.Sink.held g.J.Sink.faults s c.args.judged.now c.in-Ok.kept
          (λ r. r.closed.left) (λ r. r.closed.journal) c.in-Ok-prepare.field-0.plan.retention
          c.recorder_of-recorder.result c.node-ran.new.outlets.recorder c.record_left-entries.new.recorder left.result.1
          left.result.0.journal c.node-ran.result s.journal_file s.journal c.args.reached.file done.result.journal
          c.requires.file c.in-Ok-prepare.ensures.keeps c.requires.runnable.apart c.recorder_of-recorder.ensures
          ran.recorded (on_err_weaker {Q = c.node-ran.new.outlets.recorder ≡ c.recorder_of-recorder.result} c.node-ran.result
          (λ same. ap (λ (o : Outlets g.row.D.Denot (FileRecorder g.row.J.Denot)). o.recorder) same) ran.untold)
          left.ensures.left ran.kept left.ensures.journal c.record_left-entries.ensures.recorded
          (λ before. (done.ensures.left (ap (λ (b : Bool). is_written b left.result.0.status) (made.ensures.asked ∙ before))).1);
    }

pub returns-in_default-clause-told : goal.returns-in_default-clause-told
returns-in_default-clause-told g c end last with_it ends =
    of_none g.D.Board.show_gives (hub_seen (g.H.Hub.faults c.args.hub.now) (g.H.Hub.asked c.args.hub.now))
    (hub_seen (g.H.Hub.faults c.args.hub.now) (g.H.Hub.asked c.args.hub.now))
    c.args.judged.settings c.args.judged.now c.unopened.result.journal end c.unopened.result.unmade
    None c.args.reached.bulletin last refl c.unopened.ensures.journal (inl (with_it ∙ c.unopened.ensures.status)) ends

pub returns-in_default-clause-follows : goal.returns-in_default-clause-follows
returns-in_default-clause-follows g c =
    follows_unread g.J.Sink.held g.J.Sink.faults c.args.judged.settings c.args.judged.now 0 c.args.reached.file
    c.unopened.result.journal c.unopened.ensures.journal

pub returns-in-Err-clause-told : goal.returns-in-Err-clause-told
returns-in-Err-clause-told g c end last with_it ends =
    let why = end_by c.recorder_of-recorder.result in
    of_none g.D.Board.show_gives (hub_seen (g.H.Hub.faults c.args.hub.now) (g.H.Hub.asked c.args.hub.now))
    (hub_seen (g.H.Hub.faults c.args.hub.now) (g.H.Hub.asked c.args.hub.now))
    c.args.judged.settings c.args.judged.now c.unopened-in-Err.result.journal end c.unopened-in-Err.result.unmade
    None c.args.reached.bulletin last refl c.unopened-in-Err.ensures.journal
    (inr (with_it ∙ ap (status_with why) c.unopened-in-Err.ensures.status ∙ keeps_memory why)) ends

pub returns-in-Err-clause-follows : goal.returns-in-Err-clause-follows
returns-in-Err-clause-follows g c =
    follows_first g.J.Sink.held g.J.Sink.faults c.args.judged.settings c.args.judged.now c.in-Ok.kept
    c.args.reached.file c.recorder_of-recorder.result c.unopened-in-Err.result.journal c.recorder_of-recorder.ensures
    c.unopened-in-Err.ensures.journal
