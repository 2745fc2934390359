-- the ids so far, before those of the entries left, are the whole answer, and the first that doesn't rise ends it
use Rattle.std.proofs.Common.{◌≡◌, ◌==◌, length, None, Ok, Err, sym, ap, ◌∙◌, append-nil, rules, tests, arith}
use Rattle.std.proofs.lemmas.List.{length_push}
use Rattle.std.proofs.lemmas.Iterator.Splits.{YieldsList-from_slice_split}
use Rattle.std.proofs.lemmas.Iterator.Consumers.{YieldsList-turn, YieldsList-end}
use Rattle.xl_sched.specs.Tokens.{entries}
use Rattle.xl_sched.specs.TxSets.{risen_ids_of}
use Rattle.xl_sched.proofs.TxSetLemmas.{ids_on-more, ids_on-none, ids_on-all}
use Rattle.xl_sched.proofs.tx_sets.risen_ids.Goals as goal

pub returns-in_err-id : goal.returns-in_err-id
returns-in_err-id c =
    let here = YieldsList-turn (YieldsList-from_slice_split _ (λ b. b == 44) c.args.token.now (cc) (cc) (cc) (λ x r q k. search (rules, tests))) c.loop-entry.yielded _ c.loop-entry.yielded_by _ _ c.in-Some.entry c.in-Some.is c.next.ensures.steps in
    let none = ids_on-none c.loop-entry.ids.items c.args.names.now c.loop-entry.before (entries c.args.token.now) (length c.loop-entry.yielded) c.in-Some.entry.now c.in_err-id.field-0.0 here (sym c.risen_id.ensures ∙ c.in_err-id.was) in
    let refused : risen_ids_of c.args.names.now None (entries c.args.token.now) ≡ Err c.in_err-id.field-0.0 = sym c.loop-entry.invariant.2 ∙ none in
    search (rules, refused)

pub loop-entry-preserved : goal.loop-entry-preserved
loop-entry-preserved c =
    let here = YieldsList-turn (YieldsList-from_slice_split _ (λ b. b == 44) c.args.token.now (cc) (cc) (cc) (λ x r q k. search (rules, tests))) c.loop-entry.yielded _ c.loop-entry.yielded_by _ _ c.in-Some.entry c.in-Some.is c.next.ensures.steps in
    let more = ids_on-more c.loop-entry.ids.items c.args.names.now c.loop-entry.before (entries c.args.token.now) (length c.loop-entry.yielded) c.in-Some.entry.now c.in_ok-id.id here (sym c.risen_id.ensures ∙ c.in_ok-id.was) in
    (search rules, search rules, rw (c.in_ok-push.ensures.items, length_push c.loop-entry.yielded c.in-Some.entry) (sym more ∙ c.loop-entry.invariant.2))

pub returns : goal.returns
returns c =
    let whole = YieldsList-end (YieldsList-from_slice_split _ (λ b. b == 44) c.args.token.now (cc) (cc) (cc) (λ x r q k. search (rules, tests))) c.loop-entry.yielded _ c.loop-entry.yielded_by _ _ c.in-None.is c.next.ensures.steps in
    let all = ids_on-all c.loop-entry.ids.items c.args.names.now c.loop-entry.before (entries c.args.token.now) (length c.loop-entry.yielded) (omega (arith, whole.1)) in
    sym c.loop-entry.invariant.2 ∙ all ∙ ap (λ xs. Ok xs) (append-nil c.loop-entry.ids.items)
