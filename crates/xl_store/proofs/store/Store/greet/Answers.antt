-- a peer of the first core is one of each later core, so the core may greet it, and the entry tells that step
use Rattle.std.proofs.Common.{refl, None, ap}
use Rattle.xl_core.specs.declared.event.CoreEvent.{CoreEvent}
use Rattle.xl_core.specs.declared.event.CoreEvent.TheVariants.{Greet}
use Rattle.xl_store.specs.Entries.{entry_of}
use Rattle.xl_store.specs.Pages.{on}
use Rattle.xl_store.proofs.Turning.{goes_on, called, still_peer}
use Rattle.xl_store.proofs.store.Store.greet.Goals as goal

pub greet-requires : goal.greet-requires
greet-requires g c = record {
  peer = still_peer g.K.Keeper.held g.K.Keeper.saves g.K.Keeper.faults g.K.Keeper.save_gives
      c.args.self.now c.args.pass.now _ c.in_ok-turn.turn c.in_ok-turn.page c.args.member c.deref_mut.result.now c.deref_mut.ensures.value
      c.in_ok-turn.ensures.begun c.requires.peer;
}

pub finish-requires-clause-ends : goal.finish-requires-clause-ends
finish-requires-clause-ends g c =
    let event : CoreEvent = Greet c.args.member in
    let b = c.in_ok-turn.ensures.begun in
    record {
      found = c.in_ok-turn.turn.object;
      entry = entry_of event None;
      runs = b.found;
      goes = goes_on g.K.Keeper.held g.K.Keeper.saves g.K.Keeper.faults g.K.Keeper.save_gives
          c.in_ok-turn.turn.object.value c.deref_mut.result.now _ event c.deref_mut.ensures.value (still_peer g.K.Keeper.held g.K.Keeper.saves g.K.Keeper.faults g.K.Keeper.save_gives
          c.args.self.now c.args.pass.now event c.in_ok-turn.turn c.in_ok-turn.page c.args.member c.in_ok-turn.turn.object.value refl
          b c.requires.peer) refl
          c.greet.ensures.step.core refl;
      kept = ap (λ h. h.kept) c.deref_mut.ensures.value;
      written = b.written;
      node = b.node;
    }

pub returns-clause-called : goal.returns-clause-called
returns-clause-called g c =
    let b = c.in_ok-turn.ensures.begun in
    called g.K.Keeper.held g.K.Keeper.saves g.K.Keeper.faults g.K.Keeper.save_gives c.args.self.now c.args.pass.now c.finish.new.pass
    (Greet c.args.member) None _ c.in_ok-turn.turn c.in_ok-turn.page (on c.in_ok-turn.page)
    c.deref_mut.result.now c.deref_mut.ensures.value b b.written c.finish.ensures.known c.finish.ensures.legal refl
