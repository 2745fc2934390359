-- a peer of the first core is one of each later core, so the core may drain for it, and the entry tells that step
use Rattle.std.proofs.Common.{length, refl, None, ap}
use Rattle.xl_core.specs.declared.event.CoreEvent.{CoreEvent}
use Rattle.xl_core.specs.declared.event.CoreEvent.TheVariants.{Drain}
use Rattle.xl_core.specs.Answers.{given_in}
use Rattle.xl_core.specs.Replies.{drain_reply}
use Rattle.xl_store.specs.Entries.{entry_of}
use Rattle.xl_store.specs.Pages.{on}
use Rattle.xl_store.proofs.Turning.{goes_on, called, still_peer}
use Rattle.xl_store.proofs.store.Store.drain.Goals as goal

pub drain-written-requires-clause-peer : goal.drain-written-requires-clause-peer
drain-written-requires-clause-peer g c =
    still_peer g.K.Keeper.held g.K.Keeper.saves g.K.Keeper.faults g.K.Keeper.save_gives
    c.args.self.now c.args.pass.now _ c.in_ok-turn.turn c.in_ok-turn.page c.args.member c.deref_mut.result.now c.deref_mut.ensures.value
    c.in_ok-turn.ensures.begun c.requires.peer

pub finish-requires-clause-ends : goal.finish-requires-clause-ends
finish-requires-clause-ends g c =
    let event : CoreEvent = Drain c.args.member (length c.args.room.now) in
    let b = c.in_ok-turn.ensures.begun in
    record {
      found = c.in_ok-turn.turn.object;
      entry = entry_of event None;
      runs = b.found;
      goes = goes_on g.K.Keeper.held g.K.Keeper.saves g.K.Keeper.faults g.K.Keeper.save_gives
          c.in_ok-turn.turn.object.value c.deref_mut.result.now _ event c.deref_mut.ensures.value (
            (still_peer g.K.Keeper.held g.K.Keeper.saves g.K.Keeper.faults g.K.Keeper.save_gives
                c.args.self.now c.args.pass.now event c.in_ok-turn.turn c.in_ok-turn.page c.args.member c.in_ok-turn.turn.object.value refl
                b c.requires.peer),
            c.requires.room,
          ) refl
          c.drain-written.ensures.step.core refl;
      kept = ap (λ h. h.kept) c.deref_mut.ensures.value;
      written = b.written;
      node = b.node;
    }

pub returns-clause-called : goal.returns-clause-called
returns-clause-called g c =
    let b = c.in_ok-turn.ensures.begun in
    record {
      frames = given_in (drain_reply c.deref_mut.result.now.core c.args.member c.args.room.now).answer;
      called = called g.K.Keeper.held g.K.Keeper.saves g.K.Keeper.faults g.K.Keeper.save_gives c.args.self.now c.args.pass.now c.finish.new.pass
          (Drain c.args.member (length c.args.room.now)) None _ c.in_ok-turn.turn c.in_ok-turn.page (on c.in_ok-turn.page)
          c.deref_mut.result.now c.deref_mut.ensures.value b b.written c.finish.ensures.known c.finish.ensures.legal refl;
      count = c.drain-written.ensures.step.count;
      room = c.drain-written.ensures.step.room;
    }
