-- each step goes on as the definition does, with one step fewer to come, and stays if there is no next
use Rattle.std.proofs.Common.{◌≡◌, ◌-◌, ◌+◌, ◌<◌, List, Some, None, length, sym, ap, subst, ◌∙◌, arith}
use Rattle.std.specs.Prelude.{IfSome}
use Rattle.xl_ledger.specs.declared.header.Header.{Header}
use Rattle.xl_ledger.specs.Votes.{next_of}
use Rattle.xl_ledger.proofs.Walking.{goes_then}
use Rattle.xl_recount.proofs.BestLaws.{prefer_stays, prefer_goes}
use Rattle.xl_recount.proofs.preferring.prefer.Goals as goal

pub returns-in-None-clause-value : goal.returns-in-None-clause-value
returns-in-None-clause-value c =
    let hs = c.args.walk.now.ledgers.headers in
    let i = c.loop.invariant in
    let stays = ap (λ r. r.headers) i.goes_on.stays in
    let none : next_of hs c.args.votes.now c.args.largest c.loop.at ≡ None = ap (λ (x : List Header). next_of x c.args.votes.now c.args.largest c.loop.at) (sym stays) ∙ sym c.next.ensures.value ∙ c.in-None.is in
    sym (prefer_stays hs c.args.votes.now c.args.largest (length hs - c.loop.counter) c.loop.at none) ∙ i.same

pub loop-preserved : goal.loop-preserved
loop-preserved c =
    let hs = c.args.walk.now.ledgers.headers in
    let i = c.loop.invariant in
    let stays = ap (λ r. r.headers) i.goes_on.stays in
    let next : next_of hs c.args.votes.now c.args.largest c.loop.at ≡ Some c.in-Some.child = ap (λ (x : List Header). next_of x c.args.votes.now c.args.largest c.loop.at) (sym stays) ∙ sym c.next.ensures.value ∙ c.in-Some.is in
    let known : c.in-Some.child < length c.loop.walk.ledgers.headers = subst (λ o. IfSome o (λ b. b < length c.loop.walk.ledgers.headers)) c.in-Some.is c.next.ensures.known in
    record {
      known = omega (arith, known, ap length stays);
      same = sym (prefer_goes hs c.args.votes.now c.args.largest (length hs - c.loop.counter) (length hs - (c.loop.counter + 1)) c.loop.at c.in-Some.child (omega (arith, c.loop-test.true, c.len-end.ensures.value)) next) ∙ i.same;
      goes_on = goes_then c.args.walk.now c.loop.walk c.next.new.walk i.goes_on c.next.ensures.goes_on;
    }
