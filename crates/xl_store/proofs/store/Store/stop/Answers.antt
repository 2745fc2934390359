-- the event asks no save and is allowed to any core, so the core's step leads on by the entry on the page
use Rattle.std.proofs.Common.{refl, None, ap}
use Rattle.xl_core.specs.declared.event.CoreEvent.{CoreEvent}
use Rattle.xl_core.specs.declared.event.CoreEvent.TheVariants.{Stop}
use Rattle.xl_store.specs.Entries.{entry_of}
use Rattle.xl_store.specs.Pages.{on}
use Rattle.xl_store.proofs.Turning.{goes_on, called}
use Rattle.xl_store.proofs.store.Store.stop.Goals as goal

pub finish-requires-clause-ends : goal.finish-requires-clause-ends
finish-requires-clause-ends g c =
    let event : CoreEvent = Stop in
    let b = c.in_ok-turn.ensures.begun event c.in_ok-blank.ensures.page c.in_ok-blank.ensures.node in
    record {
      found = c.in_ok-turn.turn.object;
      entry = entry_of event None;
      runs = b.found;
      goes = goes_on g.K.Keeper.held g.K.Keeper.saves g.K.Keeper.faults g.K.Keeper.save_gives
          c.in_ok-turn.turn.object.value c.deref_mut.result.now _ event c.deref_mut.ensures.value tt refl
          c.stop.ensures.step.core refl;
      kept = ap (λ h. h.kept) c.deref_mut.ensures.value;
      written = b.written;
      node = b.node;
    }

pub returns-clause-called : goal.returns-clause-called
returns-clause-called g c =
    let b = c.in_ok-turn.ensures.begun Stop c.in_ok-blank.ensures.page c.in_ok-blank.ensures.node in
    called g.K.Keeper.held g.K.Keeper.saves g.K.Keeper.faults g.K.Keeper.save_gives c.args.self.now c.args.pass.now c.finish.new.pass
    (Stop) None _ c.in_ok-turn.turn c.in_ok-turn.page (on c.in_ok-turn.page)
    c.deref_mut.result.now c.deref_mut.ensures.value b b.written c.finish.ensures.known c.finish.ensures.legal refl
