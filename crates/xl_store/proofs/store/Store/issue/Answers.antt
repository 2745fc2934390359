-- the outcome put on the page is that of the answer, so the entry tells of the save and leads to the core after it
use Rattle.std.proofs.Common.{◌≡◌, subst, ap, ◌∙◌}
use Rattle.xl_core.specs.declared.event.CoreEvent.{CoreEvent}
use Rattle.xl_core.specs.declared.event.CoreEvent.TheVariants.{Issue}
use Rattle.xl_store.specs.Entries.{entry_of, page_of}
use Rattle.xl_store.specs.Homes.{Goes}
use Rattle.xl_store.specs.Pages.{on}
use Rattle.xl_store.specs.Outcomes.{outcome_in}
use Rattle.xl_store.proofs.Turning.{called}
use Rattle.xl_store.proofs.store.Store.issue.Goals as goal

pub finish-requires-clause-ends : goal.finish-requires-clause-ends
finish-requires-clause-ends g c =
    let event : CoreEvent = Issue c.args.now c.args.seq c.args.id c.args.full in
    let outcome = outcome_in c.issue-answer.result in
    let b = c.in_ok-turn.ensures.begun in
    record {
      found = c.in_ok-turn.turn.object;
      entry = entry_of event outcome;
      runs = b.found;
      goes = subst (λ h. Goes g.K.Keeper.held g.K.Keeper.saves g.K.Keeper.faults g.K.Keeper.save_gives h (entry_of event outcome) c.issue-answer.new.self)
          c.deref_mut.ensures.value c.issue-answer.ensures.goes;
      kept = c.issue-answer.ensures.kept ∙ ap (λ h. h.kept) c.deref_mut.ensures.value;
      written = subst (λ o. on c.note.new.self ≡ page_of event o) c.of_issue.ensures (c.note.ensures.page event b.written);
      node = c.note.ensures.node ∙ b.node;
    }

pub returns-clause-called : goal.returns-clause-called
returns-clause-called g c =
    let event : CoreEvent = Issue c.args.now c.args.seq c.args.id c.args.full in
    called g.K.Keeper.held g.K.Keeper.saves g.K.Keeper.faults g.K.Keeper.save_gives c.args.self.now c.args.pass.now c.finish.new.pass
    event (outcome_in c.issue-answer.result) _ c.in_ok-turn.turn c.in_ok-turn.page (on c.note.new.self)
    c.deref_mut.result.now c.deref_mut.ensures.value c.in_ok-turn.ensures.begun
    (subst (λ o. on c.note.new.self ≡ page_of event o) c.of_issue.ensures (c.note.ensures.page event c.in_ok-turn.ensures.begun.written))
    c.finish.ensures.known c.finish.ensures.legal c.issue-answer.ensures.answer
