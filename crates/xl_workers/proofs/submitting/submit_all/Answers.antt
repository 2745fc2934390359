-- the ids so far were submitted in order, and one that has no turn leaves these as a front of them all
use Rattle.std.proofs.Common.{List, ◌++◌, ◌∙◌, take, drop, sym, ap, subst, get_or, suc, [], drop-cons}
use Rattle.std.proofs.lemmas.List.{take_more, take-append-drop}
use Rattle.xl_base.specs.declared.ids.TxId.{TxId}
use Rattle.xl_turns.specs.Passes.{known}
use Rattle.xl_store.specs.Stores.{start_of}
use Rattle.xl_workers.specs.Submits.{Submitted}
use Rattle.xl_workers.proofs.Submissions.{submits_none, submits_more, submits_stay, had_no_turn}
use Rattle.xl_workers.proofs.submitting.submit_all.Goals as goal

pub loop-id-init : goal.loop-id-init
loop-id-init g c = record {
  pass = c.requires.pass;
  submits = submits_none (start_of c.args.store.now) (g.C.Clock.may_give c.args.clock.now) (known c.args.pass.now);
}

pub loop-id-preserved : goal.loop-id-preserved
loop-id-preserved g c =
    let start = start_of c.args.store.now in
    let may = g.C.Clock.may_give c.args.clock.now in
    let old = known c.args.pass.now in
    let ids : List TxId = c.args.ids.now in
    let i = c.loop-id.id-index in
    let none : TxId = record { 0 = [] } in
    let next = take_more ids i none c.loop-id-test.true in
    record {
      pass = c.in-Ok.ensures.pass;
      submits = subst (λ (l : List TxId). Submitted start may old l (known c.submit.new.pass)) (sym next)
          (submits_more start may old (take i ids) (get_or ids i none) c.now.result _ (known c.loop-id.pass)
          (known c.submit.new.pass) c.loop-id.invariant.submits c.now.ensures.may c.in-Ok.ensures.called.made);
    }

pub returns-in-Err-clause-front : goal.returns-in-Err-clause-front
returns-in-Err-clause-front g c =
    let start = start_of c.args.store.now in
    let may = g.C.Clock.may_give c.args.clock.now in
    let old = known c.args.pass.now in
    let ids : List TxId = c.args.ids.now in
    let i = c.loop-id.id-index in
    let none : TxId = record { 0 = [] } in
    record {
      done = take i ids;
      next = get_or ids i none;
      rest = drop (suc i) ids;
      front = sym (take-append-drop i ids)
          ∙ ap (λ (l : List TxId). take i ids ++ l) (drop-cons ids i none c.loop-id-test.true);
      submitted = submits_stay start may old (take i ids) (known c.loop-id.pass) (known c.submit.new.pass)
          c.loop-id.invariant.submits c.in-Err.ensures.refused.made;
      why = had_no_turn c.args.store.now (known c.loop-id.pass) (known c.submit.new.pass) c.in-Err.end
          c.in-Err.ensures.refused.why;
    }
