-- the event asks no save, so the core's step leads on by its entry, and what is told is of the core that it leads to
use Rattle.std.proofs.Common.{List, length, refl, None, ap, sym, ◌∙◌, ◌++◌}
use Rattle.xl_turns.specs.declared.view.Knowledge.{Knowledge}
use Rattle.xl_turns.specs.Passes.{known}
use Rattle.xl_core.specs.declared.event.CoreEvent.{CoreEvent}
use Rattle.xl_core.specs.declared.event.CoreEvent.TheVariants.{Reports}
use Rattle.xl_core.specs.Answers.{handed_in}
use Rattle.xl_core.specs.Replies.{reports_reply}
use Rattle.xl_store.specs.declared.entry.Entry.{Entry}
use Rattle.xl_store.specs.declared.home.Home.{Home}
use Rattle.xl_store.specs.Entries.{entry_of}
use Rattle.xl_store.specs.Pages.{on}
use Rattle.xl_store.specs.Statuses.{status_of}
use Rattle.xl_store.proofs.Kept.{handed_last}
use Rattle.xl_store.proofs.Turning.{goes_on, called, core_then}
use Rattle.xl_store.proofs.store.Store.reports_and_status.Goals as goal

pub finish-batch-requires-clause-ends : goal.finish-batch-requires-clause-ends
finish-batch-requires-clause-ends g c =
    let event : CoreEvent = Reports (length c.args.room.now) in
    let b = c.in_ok-turn.ensures.begun in
    record {
      found = c.in_ok-turn.turn.object;
      entry = entry_of event None;
      runs = b.found;
      goes = goes_on g.K.Keeper.held g.K.Keeper.saves g.K.Keeper.faults g.K.Keeper.save_gives
          c.in_ok-turn.turn.object.value c.deref_mut.result.now _ event c.deref_mut.ensures.value tt refl
          c.reports-count.ensures.step.core refl;
      kept = ap (λ h. h.kept) c.deref_mut.ensures.value;
      written = b.written;
      node = b.node;
    }

pub returns-clause-called : goal.returns-clause-called
returns-clause-called g c =
    let b = c.in_ok-turn.ensures.begun in
    record {
      reports = handed_in (reports_reply c.deref_mut.result.now.core c.args.room.now).answer;
      called = called g.K.Keeper.held g.K.Keeper.saves g.K.Keeper.faults g.K.Keeper.save_gives c.args.self.now c.args.pass.now c.finish-batch.new.pass
          (Reports (length c.args.room.now)) None _ c.in_ok-turn.turn c.in_ok-turn.page (on c.in_ok-turn.page)
          c.deref_mut.result.now c.deref_mut.ensures.value b b.written c.finish-batch.ensures.known c.finish-batch.ensures.legal refl;
      count = c.reports-count.ensures.step.count;
      room = c.reports-count.ensures.step.room;
    }

pub returns-clause-status : goal.returns-clause-status
returns-clause-status g c =
    let event : CoreEvent = Reports (length c.args.room.now) in
    let b = c.in_ok-turn.ensures.begun in
    let after : Home g.row.B.Denot g.row.K.Denot = record c.deref_mut.result.now { core = c.reports-count.new.self } in
    let leads = (goes_on g.K.Keeper.held g.K.Keeper.saves g.K.Keeper.faults g.K.Keeper.save_gives
    c.in_ok-turn.turn.object.value c.deref_mut.result.now after event c.deref_mut.ensures.value tt refl
    c.reports-count.ensures.step.core refl).core in
    c.of-status.ensures
    ∙ ap (λ (h : Home g.row.B.Denot g.row.K.Denot). status_of h.core) c.deref.ensures
    ∙ ap status_of (sym (core_then g.K.Keeper.held g.K.Keeper.saves g.K.Keeper.faults g.K.Keeper.save_gives
    c.args.self.now c.args.pass.now event c.in_ok-turn.turn c.in_ok-turn.page (known c.finish-batch.new.pass).seen
    (entry_of event None) after.core b leads
    (ap (λ (k : Knowledge Entry). k.seen) c.finish-batch.ensures.known
    ∙ ap (λ (p : List Entry). c.in_ok-turn.turn.journal ++ p) b.written)))

pub returns-clause-batch : goal.returns-clause-batch
returns-clause-batch g c =
    let event : CoreEvent = Reports (length c.args.room.now) in
    let b = c.in_ok-turn.ensures.begun in
    c.finish-batch.ensures.handed (entry_of event None) b.written
    ∙ handed_last c.args.self.now.retention c.in_ok-turn.turn.journal (known c.finish-batch.new.pass).seen
    (entry_of event None) refl
    (ap (λ (k : Knowledge Entry). k.seen) c.finish-batch.ensures.known
    ∙ ap (λ (p : List Entry). c.in_ok-turn.turn.journal ++ p) b.written)
