-- settings are judged at one moment: refused ones open nothing, and with others each status is that of the node's run
use Rattle.std.proofs.Common.{◌≡◌, ◌≢◌, ◌⊎◌, List, Option, rules, sym, ap, ◌∙◌, refl, subst, inl, inr, Err, IfSome, ⊎_elim}
use Rattle.xl_base.specs.Faults.{Rose}
use Rattle.xl_store.specs.declared.entry.Entry.{Entry}
use Rattle.xl_workers.specs.Linking.{hub_seen}
use Rattle.xl_settings.specs.Lines.{refusal_line}
use Rattle.xl_base.specs.declared.status.Status.{Status}
use Rattle.xl_base.specs.declared.status.Status.TheVariants as status
use Rattle.xl_settings.specs.declared.refusal.SettingsRefusal.TheVariants.{Known}
use Rattle.xl_validator.specs.Validators.{IsOfNode, IsRefused, IsUnopened, between}
use Rattle.xl_validator.specs.Ends.{CompletesAt}
use Rattle.xl_validator.specs.Following.{end_by, status_with}
use Rattle.xl_validator.specs.Reaching.{IsClosed}
use Rattle.xl_validator.specs.Tellings.{IsBoardless, TellsSo}
use Rattle.xl_validator.proofs.Ending.{IsOfRefusal, done_by_time, full_at_end, has_beats, submits_at_end, is_complete, node_known}
use Rattle.xl_validator.proofs.Ending.{of_refusal, refusal_known}
use Rattle.xl_settings.specs.declared.fault.SettingsFault.{SettingsFault}
use Rattle.xl_settings.specs.Answers.{GivenBytes}
use Rattle.xl_settings.specs.Settings.{settings_of}
use Rattle.xl_validator.proofs.Refusing.{judged_moved, judged_right, judged_refused, judged_unread}
use Rattle.xl_validator.proofs.Told.{boardless, is_either, is_named, tells_by, tells_none, tells_refused, tells_unread}
use Rattle.xl_validator.proofs.Filed.{follows_moved, writes_by, writes_none}
use Rattle.xl_validator.proofs.Statuses.{complete_with, known_with, run_is, unrecorded, write_is}
use Rattle.xl_validator.proofs.command.validator.Goals as goal

-- an input that can't be read, and memory that runs out, refuse no settings
no_refusal_of_read : (s : Status) → s ≡ status.ReadFault → s ≢ status.InputRefused
no_refusal_of_read s is other = let no = sym is ∙ other in cc

no_refusal_of_memory : (s : Status) → s ≡ status.OutOfMemory → s ≢ status.InputRefused
no_refusal_of_memory s is other = let no = sym is ∙ other in cc

pub returns-in-Ok-reach_all-clause-judged : goal.returns-in-Ok-reach_all-clause-judged
returns-in-Ok-reach_all-clause-judged g c =
    let run = c.start.result.run in
    let outside = between (hub_seen (g.H.Hub.faults c.args.hub.now) (g.H.Hub.asked c.args.hub.now))
    (hub_seen (g.H.Hub.faults c.start.new.hub) (g.H.Hub.asked c.start.new.hub))
    (g.O.Sink.held c.args.output.now) (g.O.Sink.faults c.args.output.now)
    (g.O.Sink.held c.start.new.output) (g.O.Sink.faults c.start.new.output) in
    let judged =
    judged_moved g.K.Keeper.held g.K.Keeper.saves g.K.Keeper.faults g.K.Keeper.load_gives g.K.Keeper.save_gives
    (g.I.Source.left c.args.input.now) (g.C.Clock.may_give c.args.host.now.clock.now) (g.H.Hub.gives c.args.hub.now) outside
    c.args.output.now c.start.new.output c.args.keeper run.status run.keeper c.finish.result.keeper run.journal
    c.finish.result.journal c.finish.ensures.keeper c.finish.ensures.journal
    (judged_right g.K.Keeper.held g.K.Keeper.saves g.K.Keeper.faults g.K.Keeper.load_gives g.K.Keeper.save_gives
    (g.I.Source.left c.args.input.now) (g.C.Clock.may_give c.args.host.now.clock.now) (g.H.Hub.gives c.args.hub.now) outside
    c.args.output.now c.start.new.output c.args.keeper run.keeper run.status run.journal
    c.now-now.result c.now-now.ensures.may c.in-Ok.settings c.in-Ok.ensures.settings c.start.ensures.ran
    c.start.ensures.unopened c.start.ensures.known) in
    (run.status, c.finish.ensures.status, inl judged)

pub returns-in-Ok-reach_all-clause-recorded : goal.returns-in-Ok-reach_all-clause-recorded
returns-in-Ok-reach_all-clause-recorded g c =
    writes_by g.P.J.Sink.held g.P.J.Sink.faults (g.I.Source.left c.args.input.now)
    (g.C.Clock.may_give c.args.host.now.clock.now) c.finish.result.journal c.finish.result.recorder
    c.now-now.result c.now-now.ensures.may c.in-Ok.settings c.in-Ok-reach_all.reached.file c.in-Ok.ensures.settings
    c.in-Ok-reach_all.ensures.file
    (follows_moved g.P.J.Sink.held g.P.J.Sink.faults c.in-Ok.settings c.now-now.result c.in-Ok-reach_all.reached.file
    c.start.result.run.journal c.finish.result.journal c.start.result.outlets.recorder c.finish.result.recorder
    c.finish.ensures.journal c.finish.ensures.recorder c.start.ensures.follows)

pub returns-in-Ok-reach_all-clause-done : goal.returns-in-Ok-reach_all-clause-done
returns-in-Ok-reach_all-clause-done g c is =
    let run = c.start.result.run in
    let outside = between (hub_seen (g.H.Hub.faults c.args.hub.now) (g.H.Hub.asked c.args.hub.now))
    (hub_seen (g.H.Hub.faults c.start.new.hub) (g.H.Hub.asked c.start.new.hub))
    (g.O.Sink.held c.args.output.now) (g.O.Sink.faults c.args.output.now)
    (g.O.Sink.held c.start.new.output) (g.O.Sink.faults c.start.new.output) in
    let judged =
    judged_moved g.K.Keeper.held g.K.Keeper.saves g.K.Keeper.faults g.K.Keeper.load_gives g.K.Keeper.save_gives
    (g.I.Source.left c.args.input.now) (g.C.Clock.may_give c.args.host.now.clock.now) (g.H.Hub.gives c.args.hub.now) outside
    c.args.output.now c.start.new.output c.args.keeper run.status run.keeper c.finish.result.keeper run.journal
    c.finish.result.journal c.finish.ensures.keeper c.finish.ensures.journal
    (judged_right g.K.Keeper.held g.K.Keeper.saves g.K.Keeper.faults g.K.Keeper.load_gives g.K.Keeper.save_gives
    (g.I.Source.left c.args.input.now) (g.C.Clock.may_give c.args.host.now.clock.now) (g.H.Hub.gives c.args.hub.now) outside
    c.args.output.now c.start.new.output c.args.keeper run.keeper run.status run.journal
    c.now-now.result c.now-now.ensures.may c.in-Ok.settings c.in-Ok.ensures.settings c.start.ensures.ran
    c.start.ensures.unopened c.start.ensures.known) in
    done_by_time _ _ _ _ _ _ _ _ _ _ _ _ _ judged
    (run_is (end_by c.finish.result.recorder) run.status c.finish.result.status status.Done c.finish.ensures.status (λ no. cc) (λ no. cc) is)

pub returns-in-Ok-reach_all-clause-full : goal.returns-in-Ok-reach_all-clause-full
returns-in-Ok-reach_all-clause-full g c is =
    let run = c.start.result.run in
    let outside = between (hub_seen (g.H.Hub.faults c.args.hub.now) (g.H.Hub.asked c.args.hub.now))
    (hub_seen (g.H.Hub.faults c.start.new.hub) (g.H.Hub.asked c.start.new.hub))
    (g.O.Sink.held c.args.output.now) (g.O.Sink.faults c.args.output.now)
    (g.O.Sink.held c.start.new.output) (g.O.Sink.faults c.start.new.output) in
    let judged =
    judged_moved g.K.Keeper.held g.K.Keeper.saves g.K.Keeper.faults g.K.Keeper.load_gives g.K.Keeper.save_gives
    (g.I.Source.left c.args.input.now) (g.C.Clock.may_give c.args.host.now.clock.now) (g.H.Hub.gives c.args.hub.now) outside
    c.args.output.now c.start.new.output c.args.keeper run.status run.keeper c.finish.result.keeper run.journal
    c.finish.result.journal c.finish.ensures.keeper c.finish.ensures.journal
    (judged_right g.K.Keeper.held g.K.Keeper.saves g.K.Keeper.faults g.K.Keeper.load_gives g.K.Keeper.save_gives
    (g.I.Source.left c.args.input.now) (g.C.Clock.may_give c.args.host.now.clock.now) (g.H.Hub.gives c.args.hub.now) outside
    c.args.output.now c.start.new.output c.args.keeper run.keeper run.status run.journal
    c.now-now.result c.now-now.ensures.may c.in-Ok.settings c.in-Ok.ensures.settings c.start.ensures.ran
    c.start.ensures.unopened c.start.ensures.known) in
    full_at_end _ _ _ _ _ _ _ _ _ _ _ _ _ judged
    (run_is (end_by c.finish.result.recorder) run.status c.finish.result.status status.StoreFull c.finish.ensures.status (λ no. cc) (λ no. cc) is)

pub returns-in-Ok-reach_all-clause-submits : goal.returns-in-Ok-reach_all-clause-submits
returns-in-Ok-reach_all-clause-submits g c is =
    let run = c.start.result.run in
    let outside = between (hub_seen (g.H.Hub.faults c.args.hub.now) (g.H.Hub.asked c.args.hub.now))
    (hub_seen (g.H.Hub.faults c.start.new.hub) (g.H.Hub.asked c.start.new.hub))
    (g.O.Sink.held c.args.output.now) (g.O.Sink.faults c.args.output.now)
    (g.O.Sink.held c.start.new.output) (g.O.Sink.faults c.start.new.output) in
    let judged =
    judged_moved g.K.Keeper.held g.K.Keeper.saves g.K.Keeper.faults g.K.Keeper.load_gives g.K.Keeper.save_gives
    (g.I.Source.left c.args.input.now) (g.C.Clock.may_give c.args.host.now.clock.now) (g.H.Hub.gives c.args.hub.now) outside
    c.args.output.now c.start.new.output c.args.keeper run.status run.keeper c.finish.result.keeper run.journal
    c.finish.result.journal c.finish.ensures.keeper c.finish.ensures.journal
    (judged_right g.K.Keeper.held g.K.Keeper.saves g.K.Keeper.faults g.K.Keeper.load_gives g.K.Keeper.save_gives
    (g.I.Source.left c.args.input.now) (g.C.Clock.may_give c.args.host.now.clock.now) (g.H.Hub.gives c.args.hub.now) outside
    c.args.output.now c.start.new.output c.args.keeper run.keeper run.status run.journal
    c.now-now.result c.now-now.ensures.may c.in-Ok.settings c.in-Ok.ensures.settings c.start.ensures.ran
    c.start.ensures.unopened c.start.ensures.known) in
    submits_at_end _ _ _ _ _ _ _ _ _ _ _ _ _ judged
    (run_is (end_by c.finish.result.recorder) run.status c.finish.result.status status.NetFault c.finish.ensures.status (λ no. cc) (λ no. cc) is)

pub returns-in-Ok-reach_all-clause-beats : goal.returns-in-Ok-reach_all-clause-beats
returns-in-Ok-reach_all-clause-beats g c =
    let run = c.start.result.run in
    let outside = between (hub_seen (g.H.Hub.faults c.args.hub.now) (g.H.Hub.asked c.args.hub.now))
    (hub_seen (g.H.Hub.faults c.start.new.hub) (g.H.Hub.asked c.start.new.hub))
    (g.O.Sink.held c.args.output.now) (g.O.Sink.faults c.args.output.now)
    (g.O.Sink.held c.start.new.output) (g.O.Sink.faults c.start.new.output) in
    let judged =
    judged_moved g.K.Keeper.held g.K.Keeper.saves g.K.Keeper.faults g.K.Keeper.load_gives g.K.Keeper.save_gives
    (g.I.Source.left c.args.input.now) (g.C.Clock.may_give c.args.host.now.clock.now) (g.H.Hub.gives c.args.hub.now) outside
    c.args.output.now c.start.new.output c.args.keeper run.status run.keeper c.finish.result.keeper run.journal
    c.finish.result.journal c.finish.ensures.keeper c.finish.ensures.journal
    (judged_right g.K.Keeper.held g.K.Keeper.saves g.K.Keeper.faults g.K.Keeper.load_gives g.K.Keeper.save_gives
    (g.I.Source.left c.args.input.now) (g.C.Clock.may_give c.args.host.now.clock.now) (g.H.Hub.gives c.args.hub.now) outside
    c.args.output.now c.start.new.output c.args.keeper run.keeper run.status run.journal
    c.now-now.result c.now-now.ensures.may c.in-Ok.settings c.in-Ok.ensures.settings c.start.ensures.ran
    c.start.ensures.unopened c.start.ensures.known) in
    has_beats _ _ _ _ _ _ _ _ _ _ _ _ _ c.finish.result.journal judged

pub returns-in-Ok-reach_all-clause-known : goal.returns-in-Ok-reach_all-clause-known
returns-in-Ok-reach_all-clause-known g c =
    known_with (end_by c.finish.result.recorder) c.start.result.run.status c.finish.result.status c.finish.ensures.status
    (node_known c.start.result.run.status c.start.ensures.known)

pub returns-in-Ok-reach_all-clause-read : goal.returns-in-Ok-reach_all-clause-read
returns-in-Ok-reach_all-clause-read g c is =
    absurd (subst IsOfNode (run_is (end_by c.finish.result.recorder) c.start.result.run.status c.finish.result.status
    status.ReadFault c.finish.ensures.status (λ no. cc) (λ no. cc) is) c.start.ensures.known)

pub returns-in-Ok-reach_all-clause-write : goal.returns-in-Ok-reach_all-clause-write
returns-in-Ok-reach_all-clause-write g c is =
    ⊎_elim (λ so. inl (c.start.ensures.write so)) (λ so. inr so)
    (write_is (end_by c.finish.result.recorder) c.start.result.run.status c.finish.result.status c.finish.ensures.status is)

pub returns-in-Ok-reach_all-clause-keeper : goal.returns-in-Ok-reach_all-clause-keeper
returns-in-Ok-reach_all-clause-keeper g c is =
    let so = c.start.ensures.keeper (run_is (end_by c.finish.result.recorder) c.start.result.run.status c.finish.result.status
    status.KeepFault c.finish.ensures.status (λ no. cc) (λ no. cc) is) in
    subst (λ k. Rose (g.K.Keeper.faults c.args.keeper) (g.K.Keeper.faults k)) (sym c.finish.ensures.keeper) so

pub returns-in-Ok-reach_all-clause-net : goal.returns-in-Ok-reach_all-clause-net
returns-in-Ok-reach_all-clause-net g c is =
    c.start.ensures.net (run_is (end_by c.finish.result.recorder) c.start.result.run.status c.finish.result.status
    status.NetFault c.finish.ensures.status (λ no. cc) (λ no. cc) is)

pub returns-in-Ok-reach_all-clause-complete : goal.returns-in-Ok-reach_all-clause-complete
returns-in-Ok-reach_all-clause-complete g c no_read no_write no_keep no_net no_board no_record full =
    let run = c.start.result.run in
    let outside = between (hub_seen (g.H.Hub.faults c.args.hub.now) (g.H.Hub.asked c.args.hub.now))
    (hub_seen (g.H.Hub.faults c.start.new.hub) (g.H.Hub.asked c.start.new.hub))
    (g.O.Sink.held c.args.output.now) (g.O.Sink.faults c.args.output.now)
    (g.O.Sink.held c.start.new.output) (g.O.Sink.faults c.start.new.output) in
    let judged =
    judged_moved g.K.Keeper.held g.K.Keeper.saves g.K.Keeper.faults g.K.Keeper.load_gives g.K.Keeper.save_gives
    (g.I.Source.left c.args.input.now) (g.C.Clock.may_give c.args.host.now.clock.now) (g.H.Hub.gives c.args.hub.now) outside
    c.args.output.now c.start.new.output c.args.keeper run.status run.keeper c.finish.result.keeper run.journal
    c.finish.result.journal c.finish.ensures.keeper c.finish.ensures.journal
    (judged_right g.K.Keeper.held g.K.Keeper.saves g.K.Keeper.faults g.K.Keeper.load_gives g.K.Keeper.save_gives
    (g.I.Source.left c.args.input.now) (g.C.Clock.may_give c.args.host.now.clock.now) (g.H.Hub.gives c.args.hub.now) outside
    c.args.output.now c.start.new.output c.args.keeper run.keeper run.status run.journal
    c.now-now.result c.now-now.ensures.may c.in-Ok.settings c.in-Ok.ensures.settings c.start.ensures.ran
    c.start.ensures.unopened c.start.ensures.known) in
    complete_with (g.I.Source.left c.args.input.now) (g.C.Clock.may_give c.args.host.now.clock.now)
    (end_by c.finish.result.recorder) run.status c.finish.result.status c.finish.ensures.status no_record c.now-now.result c.now-now.ensures.may
    (λ not_full. is_complete _ _ _ _ _ _ _ _ _ _ _ _ _ judged (node_known run.status c.start.ensures.known)
    (λ is. absurd (subst IsOfNode is c.start.ensures.known)) c.start.ensures.write
    (λ is. subst (λ k. Rose (g.K.Keeper.faults c.args.keeper) (g.K.Keeper.faults k)) (sym c.finish.ensures.keeper)
    (c.start.ensures.keeper is))
    c.start.ensures.net no_read no_write no_keep no_net not_full) full

pub returns-in-Ok-reach_all-clause-told : goal.returns-in-Ok-reach_all-clause-told
returns-in-Ok-reach_all-clause-told g c =
    let run = c.start.result.run in
    tells_by g.P.D.Board.show_gives g.P.D.Board.stands (g.P.Boards.stands c.args.boards.now) _ _ _ _
    (g.I.Source.left c.args.input.now) (g.C.Clock.may_give c.args.host.now.clock.now)
    c.finish.result.journal c.finish.result.status c.finish.result.bulletin c.now-now.result c.now-now.ensures.may
    c.in-Ok.settings c.in-Ok-reach_all.reached.bulletin c.in-Ok.ensures.settings c.in-Ok-reach_all.ensures.opened
    c.reach_all.ensures.unasked
    (subst (λ (j : Option (List Entry)). TellsSo g.P.D.Board.show_gives
    (hub_seen (g.H.Hub.faults c.args.hub.now) (g.H.Hub.asked c.args.hub.now))
    (hub_seen (g.H.Hub.faults c.start.new.hub) (g.H.Hub.asked c.start.new.hub)) c.in-Ok.settings c.now-now.result j
    c.finish.result.status c.in-Ok-reach_all.reached.bulletin c.finish.result.bulletin) (sym c.finish.ensures.journal)
    (c.start.ensures.told c.finish.result.status c.finish.result.bulletin
    (c.finish.ensures.status ∙ ap (λ r. status_with (end_by r) run.status) c.finish.ensures.recorder)
    c.finish.ensures.told))

pub returns-in-Err-Refused-clause-judged : goal.returns-in-Err-Refused-clause-judged
returns-in-Err-Refused-clause-judged g c =
    let old = c.args.output.now in
    let new = c.refuse.new.output in
    let line : IsRefused (refusal_line c.in-Err-Refused.refusal) c.refuse.result (g.O.Sink.held old)
    (g.O.Sink.held new) = search rules in (
      c.unopened.result.status,
      unrecorded c.unopened.result.recorder c.unopened.result.status c.unopened.ensures.recorder,
      inl (judged_refused g.K.Keeper.held g.K.Keeper.saves g.K.Keeper.faults g.K.Keeper.load_gives g.K.Keeper.save_gives
          (g.I.Source.left c.args.input.now) (g.C.Clock.may_give c.args.host.now.clock.now) (g.H.Hub.gives c.args.hub.now)
          (let hub = hub_seen (g.H.Hub.faults c.args.hub.now) (g.H.Hub.asked c.args.hub.now) in
          between hub hub (g.O.Sink.held old) (g.O.Sink.faults old) (g.O.Sink.held new) (g.O.Sink.faults new))
          old new c.args.keeper c.unopened.result.keeper c.unopened.result.status c.unopened.result.journal
          c.now-now.result c.now-now.ensures.may c.in-Err-Refused.field-0 c.in-Err-Refused.refusal c.refuse.result
          c.in-Err-Refused.field-0-is c.in-Err-Refused.ensures.settings c.unopened.ensures.journal c.unopened.ensures.status
          c.refuse.ensures.told line c.unopened.ensures.keeper refl),
    )

pub returns-in-Err-Refused-clause-recorded : goal.returns-in-Err-Refused-clause-recorded
returns-in-Err-Refused-clause-recorded g c =
    writes_none g.P.J.Sink.held g.P.J.Sink.faults (g.I.Source.left c.args.input.now)
    (g.C.Clock.may_give c.args.host.now.clock.now) c.unopened.result.journal c.unopened.result.recorder
    c.now-now.result c.now-now.ensures.may c.unopened.ensures.recorder c.unopened.ensures.journal

pub returns-in-Err-Refused-clause-done : goal.returns-in-Err-Refused-clause-done
returns-in-Err-Refused-clause-done g c =
    λ is. absurd (subst IsOfRefusal is
    (of_refusal c.unopened.result.status c.refuse.result c.unopened.ensures.status c.refuse.ensures.told))

pub returns-in-Err-Refused-clause-full : goal.returns-in-Err-Refused-clause-full
returns-in-Err-Refused-clause-full g c =
    λ is. absurd (subst IsOfRefusal is
    (of_refusal c.unopened.result.status c.refuse.result c.unopened.ensures.status c.refuse.ensures.told))

pub returns-in-Err-Refused-clause-submits : goal.returns-in-Err-Refused-clause-submits
returns-in-Err-Refused-clause-submits g c =
    λ is. absurd (subst IsOfRefusal is
    (of_refusal c.unopened.result.status c.refuse.result c.unopened.ensures.status c.refuse.ensures.told))

pub returns-in-Err-Refused-clause-write : goal.returns-in-Err-Refused-clause-write
returns-in-Err-Refused-clause-write g c is =
    inl (c.refuse.ensures.write (sym c.unopened.ensures.status ∙ is))

pub returns-in-Err-Refused-clause-complete : goal.returns-in-Err-Refused-clause-complete
returns-in-Err-Refused-clause-complete g c no_read no_write no_keep no_net no_board no_record full =
    let old = c.args.output.now in
    let new = c.refuse.new.output in
    let line : IsRefused (refusal_line c.in-Err-Refused.refusal) c.refuse.result (g.O.Sink.held old)
    (g.O.Sink.held new) = search rules in
    let judged =
    judged_refused g.K.Keeper.held g.K.Keeper.saves g.K.Keeper.faults g.K.Keeper.load_gives g.K.Keeper.save_gives
    (g.I.Source.left c.args.input.now) (g.C.Clock.may_give c.args.host.now.clock.now) (g.H.Hub.gives c.args.hub.now)
    (let hub = hub_seen (g.H.Hub.faults c.args.hub.now) (g.H.Hub.asked c.args.hub.now) in
    between hub hub (g.O.Sink.held old) (g.O.Sink.faults old) (g.O.Sink.held new) (g.O.Sink.faults new))
    old new c.args.keeper c.unopened.result.keeper c.unopened.result.status c.unopened.result.journal
    c.now-now.result c.now-now.ensures.may c.in-Err-Refused.field-0 c.in-Err-Refused.refusal c.refuse.result
    c.in-Err-Refused.field-0-is c.in-Err-Refused.ensures.settings c.unopened.ensures.journal c.unopened.ensures.status
    c.refuse.ensures.told line c.unopened.ensures.keeper refl in
    let one = of_refusal c.unopened.result.status c.refuse.result c.unopened.ensures.status c.refuse.ensures.told in
    is_complete _ _ _ _ _ _ _ _ _ _ _ _ _ judged (refusal_known c.unopened.result.status one)
    (λ is. absurd (subst IsOfRefusal is one))
    (λ is. c.refuse.ensures.write (sym c.unopened.ensures.status ∙ is))
    (λ is. absurd (subst IsOfRefusal is one)) (λ is. absurd (subst IsOfRefusal is one))
    no_read no_write no_keep no_net full

pub returns-in-Err-Refused-clause-told : goal.returns-in-Err-Refused-clause-told
returns-in-Err-Refused-clause-told g c =
    tells_refused g.P.D.Board.show_gives g.P.D.Board.stands (g.P.Boards.stands c.args.boards.now) _ _ _ _
    (g.I.Source.left c.args.input.now) (g.C.Clock.may_give c.args.host.now.clock.now)
    c.unopened.result.journal c.unopened.result.status c.unopened.result.bulletin c.now-now.result c.now-now.ensures.may
    c.in-Err-Refused.refusal
    (subst (λ (f : SettingsFault). IfSome (g.I.Source.left c.args.input.now) (λ bytes.
    GivenBytes (Err f) (settings_of bytes c.now-now.result))) c.in-Err-Refused.field-0-is c.in-Err-Refused.ensures.settings)
    c.unopened.ensures.bulletin refl

pub returns-in-Err-Read-clause-judged : goal.returns-in-Err-Read-clause-judged
returns-in-Err-Read-clause-judged g c =
    let held = g.O.Sink.held c.args.output.now in
    let faults = g.O.Sink.faults c.args.output.now in
    let ended = c.unopened-in-Err-Read in (
      ended.result.status,
      unrecorded ended.result.recorder ended.result.status ended.ensures.recorder,
      inl (judged_unread g.K.Keeper.held g.K.Keeper.saves g.K.Keeper.faults g.K.Keeper.load_gives g.K.Keeper.save_gives
          (g.I.Source.left c.args.input.now) (g.C.Clock.may_give c.args.host.now.clock.now) (g.H.Hub.gives c.args.hub.now)
          (let hub = hub_seen (g.H.Hub.faults c.args.hub.now) (g.H.Hub.asked c.args.hub.now) in
          between hub hub held faults held faults)
          c.args.output.now c.args.output.now c.args.keeper ended.result.keeper ended.result.status ended.result.journal
          c.now-now.result c.now-now.ensures.may ended.ensures.journal (subst IsUnopened (sym ended.ensures.status) tt)
          (no_refusal_of_read ended.result.status ended.ensures.status) refl refl ended.ensures.keeper refl),
    )

pub returns-in-Err-Read-clause-recorded : goal.returns-in-Err-Read-clause-recorded
returns-in-Err-Read-clause-recorded g c =
    let ended = c.unopened-in-Err-Read in
    writes_none g.P.J.Sink.held g.P.J.Sink.faults (g.I.Source.left c.args.input.now)
    (g.C.Clock.may_give c.args.host.now.clock.now) ended.result.journal ended.result.recorder
    c.now-now.result c.now-now.ensures.may ended.ensures.recorder ended.ensures.journal

pub returns-in-Err-Read-clause-told : goal.returns-in-Err-Read-clause-told
returns-in-Err-Read-clause-told g c =
    let ended = c.unopened-in-Err-Read in
    tells_unread g.P.D.Board.show_gives g.P.D.Board.stands (g.P.Boards.stands c.args.boards.now) _ _ _ _
    (g.I.Source.left c.args.input.now) (g.C.Clock.may_give c.args.host.now.clock.now)
    ended.result.journal ended.result.status ended.result.bulletin c.now-now.result c.now-now.ensures.may
    ended.ensures.bulletin ended.ensures.journal refl (subst (IsBoardless _) (sym ended.ensures.status) tt)

pub returns-in-Err-OutOfMemory-clause-judged : goal.returns-in-Err-OutOfMemory-clause-judged
returns-in-Err-OutOfMemory-clause-judged g c =
    let held = g.O.Sink.held c.args.output.now in
    let faults = g.O.Sink.faults c.args.output.now in
    let ended = c.unopened-in-Err-OutOfMemory in (
      ended.result.status,
      unrecorded ended.result.recorder ended.result.status ended.ensures.recorder,
      inl (judged_unread g.K.Keeper.held g.K.Keeper.saves g.K.Keeper.faults g.K.Keeper.load_gives g.K.Keeper.save_gives
          (g.I.Source.left c.args.input.now) (g.C.Clock.may_give c.args.host.now.clock.now) (g.H.Hub.gives c.args.hub.now)
          (let hub = hub_seen (g.H.Hub.faults c.args.hub.now) (g.H.Hub.asked c.args.hub.now) in
          between hub hub held faults held faults)
          c.args.output.now c.args.output.now c.args.keeper ended.result.keeper ended.result.status ended.result.journal
          c.now-now.result c.now-now.ensures.may ended.ensures.journal (subst IsUnopened (sym ended.ensures.status) tt)
          (no_refusal_of_memory ended.result.status ended.ensures.status) refl refl ended.ensures.keeper refl),
    )

pub returns-in-Err-OutOfMemory-clause-recorded : goal.returns-in-Err-OutOfMemory-clause-recorded
returns-in-Err-OutOfMemory-clause-recorded g c =
    let ended = c.unopened-in-Err-OutOfMemory in
    writes_none g.P.J.Sink.held g.P.J.Sink.faults (g.I.Source.left c.args.input.now)
    (g.C.Clock.may_give c.args.host.now.clock.now) ended.result.journal ended.result.recorder
    c.now-now.result c.now-now.ensures.may ended.ensures.recorder ended.ensures.journal

pub returns-in-Err-OutOfMemory-clause-complete : goal.returns-in-Err-OutOfMemory-clause-complete
returns-in-Err-OutOfMemory-clause-complete g c no_read no_write no_keep no_net no_board no_record full =
    subst (λ (e : Status). CompletesAt (g.I.Source.left c.args.input.now) (g.C.Clock.may_give c.args.host.now.clock.now) e)
    (sym c.unopened-in-Err-OutOfMemory.ensures.status) (c.now-now.result, c.now-now.ensures.may, tt)

pub returns-in-Err-OutOfMemory-clause-told : goal.returns-in-Err-OutOfMemory-clause-told
returns-in-Err-OutOfMemory-clause-told g c =
    let ended = c.unopened-in-Err-OutOfMemory in
    tells_unread g.P.D.Board.show_gives g.P.D.Board.stands (g.P.Boards.stands c.args.boards.now) _ _ _ _
    (g.I.Source.left c.args.input.now) (g.C.Clock.may_give c.args.host.now.clock.now)
    ended.result.journal ended.result.status ended.result.bulletin c.now-now.result c.now-now.ensures.may
    ended.ensures.bulletin ended.ensures.journal refl (subst (IsBoardless _) (sym ended.ensures.status) tt)

pub returns-in-Err-Refused-reach_all-clause-judged : goal.returns-in-Err-Refused-reach_all-clause-judged
returns-in-Err-Refused-reach_all-clause-judged g c =
    let ended = c.unopened-in-Err-Refused-reach_all in
    let closed = subst (IsClosed c.in-Ok.settings _) c.in-Err-Refused-reach_all.field-0-is c.in-Err-Refused-reach_all.ensures.closed in (
      ended.result.status,
      unrecorded ended.result.recorder ended.result.status ended.ensures.recorder,
      inr (record {
        moment = c.now-now.result;
        given = c.now-now.ensures.may;
        settings = c.in-Ok.settings;
        read = c.in-Ok.ensures.settings;
        name = c.in-Err-Refused-reach_all.name;
        named = closed.0;
        failed = closed.1;
        unopened = c.unopened-in-Err-Refused-reach_all.ensures.journal;
        untouched = (c.unopened-in-Err-Refused-reach_all.ensures.keeper, refl);
        line = subst (λ (t : Status). IsRefused (refusal_line (Known c.in-Err-Refused-reach_all.name)) t
            (g.O.Sink.held c.args.output.now) (g.O.Sink.held c.refuse-in-Err-Refused-reach_all.new.output))
            (sym c.unopened-in-Err-Refused-reach_all.ensures.status) c.refuse-in-Err-Refused-reach_all.ensures.refused;
        cause = subst (λ (t : Status). (t ≡ status.InputRefused) ⊎ (t ≡ status.WriteFault))
            (sym c.unopened-in-Err-Refused-reach_all.ensures.status) c.refuse-in-Err-Refused-reach_all.ensures.told;
      }),
    )

pub returns-in-Err-Refused-reach_all-clause-recorded : goal.returns-in-Err-Refused-reach_all-clause-recorded
returns-in-Err-Refused-reach_all-clause-recorded g c =
    let ended = c.unopened-in-Err-Refused-reach_all in
    writes_none g.P.J.Sink.held g.P.J.Sink.faults (g.I.Source.left c.args.input.now)
    (g.C.Clock.may_give c.args.host.now.clock.now) ended.result.journal ended.result.recorder
    c.now-now.result c.now-now.ensures.may ended.ensures.recorder ended.ensures.journal

pub returns-in-Err-Refused-reach_all-clause-done : goal.returns-in-Err-Refused-reach_all-clause-done
returns-in-Err-Refused-reach_all-clause-done g c =
    λ is. absurd (subst IsOfRefusal is
    (of_refusal c.unopened-in-Err-Refused-reach_all.result.status c.refuse-in-Err-Refused-reach_all.result c.unopened-in-Err-Refused-reach_all.ensures.status c.refuse-in-Err-Refused-reach_all.ensures.told))

pub returns-in-Err-Refused-reach_all-clause-full : goal.returns-in-Err-Refused-reach_all-clause-full
returns-in-Err-Refused-reach_all-clause-full g c =
    λ is. absurd (subst IsOfRefusal is
    (of_refusal c.unopened-in-Err-Refused-reach_all.result.status c.refuse-in-Err-Refused-reach_all.result c.unopened-in-Err-Refused-reach_all.ensures.status c.refuse-in-Err-Refused-reach_all.ensures.told))

pub returns-in-Err-Refused-reach_all-clause-submits : goal.returns-in-Err-Refused-reach_all-clause-submits
returns-in-Err-Refused-reach_all-clause-submits g c =
    λ is. absurd (subst IsOfRefusal is
    (of_refusal c.unopened-in-Err-Refused-reach_all.result.status c.refuse-in-Err-Refused-reach_all.result c.unopened-in-Err-Refused-reach_all.ensures.status c.refuse-in-Err-Refused-reach_all.ensures.told))

pub returns-in-Err-Refused-reach_all-clause-write : goal.returns-in-Err-Refused-reach_all-clause-write
returns-in-Err-Refused-reach_all-clause-write g c is =
    inl (c.refuse-in-Err-Refused-reach_all.ensures.write (sym c.unopened-in-Err-Refused-reach_all.ensures.status ∙ is))

pub returns-in-Err-Refused-reach_all-clause-complete : goal.returns-in-Err-Refused-reach_all-clause-complete
returns-in-Err-Refused-reach_all-clause-complete g c no_read no_write no_keep no_net no_board no_record full =
    let closed = subst (IsClosed c.in-Ok.settings _) c.in-Err-Refused-reach_all.field-0-is c.in-Err-Refused-reach_all.ensures.closed in
    absurd (no_board closed.1)

pub returns-in-Err-Refused-reach_all-clause-told : goal.returns-in-Err-Refused-reach_all-clause-told
returns-in-Err-Refused-reach_all-clause-told g c =
    let closed = subst (IsClosed c.in-Ok.settings _) c.in-Err-Refused-reach_all.field-0-is c.in-Err-Refused-reach_all.ensures.closed in
    tells_none g.P.D.Board.show_gives g.P.D.Board.stands (g.P.Boards.stands c.args.boards.now) _ _ _ _
    (g.I.Source.left c.args.input.now) (g.C.Clock.may_give c.args.host.now.clock.now)
    c.unopened-in-Err-Refused-reach_all.result.journal c.unopened-in-Err-Refused-reach_all.result.status c.unopened-in-Err-Refused-reach_all.result.bulletin c.now-now.result c.now-now.ensures.may
    c.in-Ok.settings c.in-Ok.ensures.settings (is_named c.in-Ok.settings c.in-Err-Refused-reach_all.name closed.0) c.unopened-in-Err-Refused-reach_all.ensures.bulletin c.unopened-in-Err-Refused-reach_all.ensures.journal
    (boardless _ c.unopened-in-Err-Refused-reach_all.result.status c.refuse-in-Err-Refused-reach_all.result c.unopened-in-Err-Refused-reach_all.ensures.status c.refuse-in-Err-Refused-reach_all.ensures.told closed.1)

pub returns-clause-judged : goal.returns-clause-judged
returns-clause-judged g c =
    let held = g.O.Sink.held c.args.output.now in
    let faults = g.O.Sink.faults c.args.output.now in
    let ended = c.unopened-in-Err-OutOfMemory-reach_all in (
      ended.result.status,
      unrecorded ended.result.recorder ended.result.status ended.ensures.recorder,
      inl (judged_unread g.K.Keeper.held g.K.Keeper.saves g.K.Keeper.faults g.K.Keeper.load_gives g.K.Keeper.save_gives
          (g.I.Source.left c.args.input.now) (g.C.Clock.may_give c.args.host.now.clock.now) (g.H.Hub.gives c.args.hub.now)
          (let hub = hub_seen (g.H.Hub.faults c.args.hub.now) (g.H.Hub.asked c.args.hub.now) in
          between hub hub held faults held faults)
          c.args.output.now c.args.output.now c.args.keeper ended.result.keeper ended.result.status ended.result.journal
          c.now-now.result c.now-now.ensures.may ended.ensures.journal (subst IsUnopened (sym ended.ensures.status) tt)
          (no_refusal_of_memory ended.result.status ended.ensures.status) refl refl ended.ensures.keeper refl),
    )

pub returns-clause-recorded : goal.returns-clause-recorded
returns-clause-recorded g c =
    let ended = c.unopened-in-Err-OutOfMemory-reach_all in
    writes_none g.P.J.Sink.held g.P.J.Sink.faults (g.I.Source.left c.args.input.now)
    (g.C.Clock.may_give c.args.host.now.clock.now) ended.result.journal ended.result.recorder
    c.now-now.result c.now-now.ensures.may ended.ensures.recorder ended.ensures.journal

pub returns-clause-complete : goal.returns-clause-complete
returns-clause-complete g c no_read no_write no_keep no_net no_board no_record full =
    subst (λ (e : Status). CompletesAt (g.I.Source.left c.args.input.now) (g.C.Clock.may_give c.args.host.now.clock.now) e)
    (sym c.unopened-in-Err-OutOfMemory-reach_all.ensures.status) (c.now-now.result, c.now-now.ensures.may, tt)

pub returns-clause-told : goal.returns-clause-told
returns-clause-told g c =
    let ended = c.unopened-in-Err-OutOfMemory-reach_all in
    tells_none g.P.D.Board.show_gives g.P.D.Board.stands (g.P.Boards.stands c.args.boards.now) _ _ _ _
    (g.I.Source.left c.args.input.now) (g.C.Clock.may_give c.args.host.now.clock.now)
    ended.result.journal ended.result.status ended.result.bulletin c.now-now.result c.now-now.ensures.may
    c.in-Ok.settings c.in-Ok.ensures.settings (is_either c.in-Ok.settings (subst (IsClosed c.in-Ok.settings _) c.in-Err-OutOfMemory-reach_all.field-0-is c.in-Err-OutOfMemory-reach_all.ensures.closed)) ended.ensures.bulletin ended.ensures.journal
    (subst (IsBoardless _) (sym ended.ensures.status) tt)
