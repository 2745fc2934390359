-- the event asks no save and its moment is allowed, so the core's step leads on by the entry on the page
use Rattle.std.proofs.Common.{refl, sym, None, ap}
use Rattle.xl_core.specs.declared.event.CoreEvent.{CoreEvent}
use Rattle.xl_core.specs.declared.event.CoreEvent.TheVariants.{Submit}
use Rattle.xl_store.specs.Entries.{entry_of}
use Rattle.xl_store.specs.Pages.{on}
use Rattle.xl_store.proofs.Turning.{goes_on, called}
use Rattle.xl_store.proofs.store.Store.submit.Goals as goal

pub finish-requires-clause-ends : goal.finish-requires-clause-ends
finish-requires-clause-ends g c =
    let event : CoreEvent = Submit c.args.now c.args.tx in
    let b = c.in_ok-turn.ensures.begun in
    record {
      found = c.in_ok-turn.turn.object;
      entry = entry_of event None;
      runs = b.found;
      goes = goes_on g.K.Keeper.held g.K.Keeper.saves g.K.Keeper.faults g.K.Keeper.save_gives
          c.in_ok-turn.turn.object.value c.deref_mut.result.now _ event c.deref_mut.ensures.value c.requires.moment refl
          c.submit-answer.ensures.step.core refl;
      kept = ap (λ h. h.kept) c.deref_mut.ensures.value;
      written = b.written;
      node = b.node;
    }

pub returns-clause-called : goal.returns-clause-called
returns-clause-called g c =
    let b = c.in_ok-turn.ensures.begun in
    called g.K.Keeper.held g.K.Keeper.saves g.K.Keeper.faults g.K.Keeper.save_gives c.args.self.now c.args.pass.now c.finish.new.pass
    (Submit c.args.now c.args.tx) None _ c.in_ok-turn.turn c.in_ok-turn.page (on c.in_ok-turn.page)
    c.deref_mut.result.now c.deref_mut.ensures.value b b.written c.finish.ensures.known c.finish.ensures.legal (sym c.submit-answer.ensures.step.answer)
