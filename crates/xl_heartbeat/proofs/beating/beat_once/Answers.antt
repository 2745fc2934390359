-- the list is set first, then the timer comes, then reports are taken, and a call without a turn ends the beat there
use Rattle.std.proofs.Common.{refl, sym, subst, ◌∙◌, ap}
use Rattle.xl_turns.specs.Passes.{known}
use Rattle.xl_store.specs.Stores.{start_of, turns_of, retention_of}
use Rattle.xl_heartbeat.specs.Outputs.{output}
use Rattle.xl_heartbeat.specs.Beats.{Phase}
use Rattle.xl_heartbeat.specs.Going.{Beaten, Follows, after_reports}
use Rattle.xl_heartbeat.proofs.Pulses.{relisted, timed, taken, not_called}
use Rattle.xl_heartbeat.proofs.Telling.{noted, still_told}
use Rattle.xl_heartbeat.proofs.Recording.{recorded_both, recorded_quiet, recorded_refused, quiet_asked}
use Rattle.xl_heartbeat.proofs.beating.beat_once.Goals as goal

pub returns-clause-follows : goal.returns-clause-follows
returns-clause-follows g c k0 o0 b =
    let may = g.C.Clock.may_give c.args.clock.now in
    let start = start_of c.args.store.now in
    let turns = turns_of c.args.store.now in
    let pulse = c.args.pulse.now in
    let now = c.now-now.result in
    let standing = c.relist_at.new.standing in
    let before = output (g.O.Sink.held c.args.sink.now) (g.O.Sink.faults c.args.sink.now) in
    let after = output (g.O.Sink.held c.take_and_tell-taken.new.sink) (g.O.Sink.faults c.take_and_tell-taken.new.sink) in
    let far = relisted start turns may pulse k0 o0 (known c.args.pass.now) (known c.relist_at.new.pass) before now
    c.args.progress.now.standing c.look_at-look.new.standing standing c.look_at-look.result c.now-now.ensures.may c.look_at-look.ensures
    c.in-Ok.ensures.relisted b in
    let called = c.in-Ok-timer.ensures.called in
    let due = timed start turns may pulse k0 o0 (known c.relist_at.new.pass) (known c.timer.new.pass) before now
    standing
    c.in-Ok-timer.field-0 called.made called.later far in
    let end = c.take_and_tell-taken.result in
    subst (λ o. Follows start turns may pulse k0 o0 standing o (known c.take_and_tell-taken.new.pass) after)
    (sym (c.after_reports.ensures ∙ ap (after_reports end) c.is_over.ensures))
    (taken start turns may pulse k0 o0 end (known c.timer.new.pass) (known c.take_and_tell-taken.new.pass)
    before after now standing due c.take_and_tell-taken.ensures.takes)

pub returns-in-Err-timer-clause-follows : goal.returns-in-Err-timer-clause-follows
returns-in-Err-timer-clause-follows g c k0 o0 b =
    let may = g.C.Clock.may_give c.args.clock.now in
    let start = start_of c.args.store.now in
    let turns = turns_of c.args.store.now in
    let pulse = c.args.pulse.now in
    let now = c.now-now.result in
    let standing = c.relist_at.new.standing in
    let before = output (g.O.Sink.held c.args.sink.now) (g.O.Sink.faults c.args.sink.now) in
    let far = relisted start turns may pulse k0 o0 (known c.args.pass.now) (known c.relist_at.new.pass) before now
    c.args.progress.now.standing c.look_at-look.new.standing standing c.look_at-look.result c.now-now.ensures.may c.look_at-look.ensures
    c.in-Ok.ensures.relisted b in
    subst (λ e. Beaten start turns may pulse k0 o0 e (known c.timer.new.pass) before)
    (sym c.ending_of-in-Err-timer.ensures)
    (not_called c.args.store.now may pulse k0 o0 (Phase.Times now standing) tt c.relist_at.new.pass
    c.timer.new.pass before
    c.in-Err-timer.end far c.in-Err-timer.ensures.refused)

pub returns-in-Err-clause-follows : goal.returns-in-Err-clause-follows
returns-in-Err-clause-follows g c k0 o0 b =
    let may = g.C.Clock.may_give c.args.clock.now in
    let start = start_of c.args.store.now in
    let turns = turns_of c.args.store.now in
    let pulse = c.args.pulse.now in
    let before = output (g.O.Sink.held c.args.sink.now) (g.O.Sink.faults c.args.sink.now) in
    subst (λ e. Beaten start turns may pulse k0 o0 e (known c.relist_at.new.pass) before) (sym c.ending_of.ensures)
    (not_called c.args.store.now may pulse k0 o0 (Phase.Beats c.args.progress.now.standing) tt c.args.pass.now
    c.relist_at.new.pass
    before c.in-Err.end b c.in-Err.ensures.refused)

pub returns-clause-told : goal.returns-clause-told
returns-clause-told g c first t =
    let gives = g.D.Board.show_gives in
    let start = start_of c.args.store.now in
    let bulletin = c.note_look.new.bulletin in
    let kept = noted gives start first c.args.progress.now.outlets.bulletin bulletin c.look_at-look.result (known c.args.pass.now).seen
    c.note_look.ensures t in
    c.take_and_tell-taken.ensures.told first
    (still_told gives start first bulletin (known c.relist_at.new.pass).seen (known c.timer.new.pass).seen
    c.in-Ok-timer.ensures.called.made.begins
    (still_told gives start first bulletin (known c.args.pass.now).seen (known c.relist_at.new.pass).seen
    c.in-Ok.ensures.relisted.made.begins kept))

pub returns-in-Err-timer-clause-told : goal.returns-in-Err-timer-clause-told
returns-in-Err-timer-clause-told g c first t =
    let gives = g.D.Board.show_gives in
    let start = start_of c.args.store.now in
    let bulletin = c.note_look.new.bulletin in
    let kept = noted gives start first c.args.progress.now.outlets.bulletin bulletin c.look_at-look.result (known c.args.pass.now).seen
    c.note_look.ensures t in
    still_told gives start first bulletin (known c.relist_at.new.pass).seen (known c.timer.new.pass).seen
    c.in-Err-timer.ensures.refused.made.begins
    (still_told gives start first bulletin (known c.args.pass.now).seen (known c.relist_at.new.pass).seen
    c.in-Ok.ensures.relisted.made.begins kept)

pub returns-in-Err-clause-told : goal.returns-in-Err-clause-told
returns-in-Err-clause-told g c first t =
    let gives = g.D.Board.show_gives in
    let start = start_of c.args.store.now in
    still_told gives start first c.note_look.new.bulletin
    (known c.args.pass.now).seen (known c.relist_at.new.pass).seen c.in-Err.ensures.refused.made.begins
    (noted gives start first c.args.progress.now.outlets.bulletin c.note_look.new.bulletin c.look_at-look.result (known c.args.pass.now).seen
    c.note_look.ensures t)

pub returns-clause-recorded : goal.returns-clause-recorded
returns-clause-recorded g c =
    let records = g.R.Recorder.records in
    let start = start_of c.args.store.now in
    let retention = retention_of c.args.store.now in
    let recorder = c.args.progress.now.outlets.recorder in
    let old = known c.args.pass.now in
    let asked = known c.relist_at.new.pass in
    let r = c.in-Ok.ensures.relisted in
    let far = recorded_quiet records retention start old asked r.calls recorder r.made
    (quiet_asked _ c.now-now.result c.look_at-look.new.standing.set r.next r.calls r.asked) in
    let timed = known c.timer.new.pass in
    let new = known c.take_and_tell-taken.new.pass in
    let due = recorded_both records retention start old asked timed recorder recorder recorder far
    (recorded_quiet records retention start asked timed _ recorder c.in-Ok-timer.ensures.called.made (refl, tt)) in
    recorded_both records retention start old timed new recorder recorder
    c.take_and_tell-taken.new.outlets.recorder due c.take_and_tell-taken.ensures.recorded

pub returns-in-Err-timer-clause-recorded : goal.returns-in-Err-timer-clause-recorded
returns-in-Err-timer-clause-recorded g c =
    let records = g.R.Recorder.records in
    let start = start_of c.args.store.now in
    let retention = retention_of c.args.store.now in
    let recorder = c.args.progress.now.outlets.recorder in
    let old = known c.args.pass.now in
    let asked = known c.relist_at.new.pass in
    let r = c.in-Ok.ensures.relisted in
    let far = recorded_quiet records retention start old asked r.calls recorder r.made
    (quiet_asked _ c.now-now.result c.look_at-look.new.standing.set r.next r.calls r.asked) in
    recorded_both records retention start old asked (known c.timer.new.pass) recorder recorder recorder far
    (recorded_refused records c.args.store.now c.relist_at.new.pass c.timer.new.pass c.in-Err-timer.end recorder
    c.in-Err-timer.ensures.refused)

pub returns-in-Err-clause-recorded : goal.returns-in-Err-clause-recorded
returns-in-Err-clause-recorded g c =
    recorded_refused g.R.Recorder.records c.args.store.now c.args.pass.now c.relist_at.new.pass c.in-Err.end
    c.args.progress.now.outlets.recorder c.in-Err.ensures.refused
