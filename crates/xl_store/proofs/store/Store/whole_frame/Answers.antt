-- the copy on the page is of the bytes that the core hears, so the entry tells the step that the core makes
use Rattle.std.proofs.Common.{ℕ, List, refl, sym, ap, None}
use Rattle.xl_core.specs.declared.event.CoreEvent.{CoreEvent}
use Rattle.xl_core.specs.declared.event.CoreEvent.TheVariants.{Frame}
use Rattle.xl_store.specs.Entries.{entry_of}
use Rattle.xl_store.specs.Pages.{on}
use Rattle.xl_store.proofs.Turning.{begun_as, goes_on, called}
use Rattle.xl_store.proofs.store.Store.whole_frame.Goals as goal

pub finish-requires-clause-ends : goal.finish-requires-clause-ends
finish-requires-clause-ends g c =
    let event : CoreEvent = Frame c.args.now c.args.bytes.now in
    let b = begun_as g.K.Keeper.held g.K.Keeper.saves g.K.Keeper.faults g.K.Keeper.save_gives
    c.args.self.now c.args.pass.now _ event c.in_ok-turn.turn c.in_ok-turn.page
    (ap (λ (bytes : List ℕ). let e : CoreEvent = Frame c.args.now bytes in e) c.in_ok-copy.ensures.copy)
    c.in_ok-turn.ensures.begun in
    record {
      found = c.in_ok-turn.turn.object;
      entry = entry_of event None;
      runs = b.found;
      goes = goes_on g.K.Keeper.held g.K.Keeper.saves g.K.Keeper.faults g.K.Keeper.save_gives
          c.in_ok-turn.turn.object.value c.deref_mut.result.now _ event c.deref_mut.ensures.value c.requires.moment refl
          c.whole_frame-answer.ensures.step.core refl;
      kept = ap (λ h. h.kept) c.deref_mut.ensures.value;
      written = b.written;
      node = b.node;
    }

pub returns-clause-called : goal.returns-clause-called
returns-clause-called g c =
    let event : CoreEvent = Frame c.args.now c.args.bytes.now in
    let b = begun_as g.K.Keeper.held g.K.Keeper.saves g.K.Keeper.faults g.K.Keeper.save_gives
    c.args.self.now c.args.pass.now _ event c.in_ok-turn.turn c.in_ok-turn.page
    (ap (λ (bytes : List ℕ). let e : CoreEvent = Frame c.args.now bytes in e) c.in_ok-copy.ensures.copy)
    c.in_ok-turn.ensures.begun in
    called g.K.Keeper.held g.K.Keeper.saves g.K.Keeper.faults g.K.Keeper.save_gives c.args.self.now c.args.pass.now c.finish.new.pass
    event None _ c.in_ok-turn.turn c.in_ok-turn.page (on c.in_ok-turn.page)
    c.deref_mut.result.now c.deref_mut.ensures.value b b.written c.finish.ensures.known c.finish.ensures.legal (sym c.whole_frame-answer.ensures.step.answer)
