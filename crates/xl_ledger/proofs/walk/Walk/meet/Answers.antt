-- the two stay apart, and a jump of the level would bring them together, so at the end their parent is shared
use Rattle.std.proofs.Common.{◌≡◌, ◌≢◌, ◌+◌, ◌-◌, ◌≤◌, sym, ap, ◌∙◌, arith, inr}
use Rattle.xl_ledger.specs.Registries.{Ledgers}
use Rattle.xl_ledger.specs.Chains.{common_of}
use Rattle.xl_ledger.specs.Jumps.{jump_of}
use Rattle.xl_ledger.proofs.ChainLaws.{common_same}
use Rattle.xl_ledger.proofs.Walking.{goes_from, goes_then, apart_if, apart_if_not, same_if_so}
use Rattle.xl_ledger.proofs.Climbing.{apart_from, apart_higher, few_higher, met, met_known}
use Rattle.xl_ledger.proofs.walk.Walk.meet.Goals as goal

pub returns-then-eq-clause-value : goal.returns-then-eq-clause-value
returns-then-eq-clause-value c =
    let same : c.args.a ≡ c.args.b = same_if_so c.args.a c.args.b c.eq.result c.eq.ensures c.if-eq.true in
    sym (common_same c.args.self.now.ledgers.headers c.args.a) ∙ ap (common_of c.args.self.now.ledgers.headers c.args.a) same

pub loop-level-init : goal.loop-level-init
loop-level-init c = record {
  apart = apart_from c.args.self.now.ledgers.headers c.requires.ledgers c.args.a c.args.b c.requires.a_known c.requires.b_known c.requires.one_seq c.requires.low (apart_if c.args.a c.args.b c.eq.result c.eq.ensures c.if-eq.false);
  few = inr (omega arith, c.requires.low);
  goes_on = goes_from c.args.self.now;
}

pub loop-level-preserved-then-ne : goal.loop-level-preserved-then-ne
loop-level-preserved-then-ne c =
    let hs = c.args.self.now.ledgers.headers in
    let l = c.loop-level in
    let stays = l.invariant.goes_on.stays in
    let left_is : c.jump-left.result ≡ jump_of hs l.left (l.level - 1) = c.jump-left.ensures.value ∙ ap (λ (r : Ledgers). jump_of r.headers l.left (l.level - 1)) stays in
    let right_is : c.jump-right.result ≡ jump_of hs l.right (l.level - 1) = c.jump-right.ensures.value ∙ ap (λ (r : Ledgers). jump_of r.headers l.right (l.level - 1)) (c.jump-left.ensures.goes_on.stays ∙ stays) in
    let other : c.leads_to.result ≢ c.leads_to-in-loop-level.result = apart_if_not c.leads_to.result c.leads_to-in-loop-level.result c.ne.result c.ne.ensures c.if-ne.true in
    let right_leads : c.jump-right.result ≡ c.leads_to-in-loop-level.result = c.jump-right.ensures.value ∙ ap (λ (r : Ledgers). jump_of r.headers l.right (l.level - 1)) c.jump-left.ensures.goes_on.stays ∙ sym c.leads_to-in-loop-level.ensures in
    let differ : c.jump-left.result ≢ c.jump-right.result = λ e. other (c.leads_to.ensures ∙ sym c.jump-left.ensures.value ∙ e ∙ right_leads) in
    let ticks : c.jump-right.new.self.taken ≤ l.self.taken + 2 = omega (arith, c.jump-left.ensures.step, c.jump-right.ensures.step) in
    record {
      apart = apart_higher hs c.requires.ledgers c.args.a c.args.b l.left l.right l.level c.jump-left.result c.jump-right.result l.invariant.apart c.loop-level-test.true left_is right_is differ;
      few = few_higher hs c.requires.ledgers c.args.self.now.taken l.self.taken c.jump-right.new.self.taken l.left l.level c.jump-left.result c.loop-level-test.true l.invariant.apart.left_known left_is ticks l.invariant.few;
      goes_on = goes_then c.args.self.now l.self c.jump-right.new.self l.invariant.goes_on (goes_then l.self c.jump-left.new.self c.jump-right.new.self c.jump-left.ensures.goes_on c.jump-right.ensures.goes_on);
    }

pub returns-clause-value : goal.returns-clause-value
returns-clause-value c =
    let l = c.loop-level in
    met c.args.self.now.ledgers.headers c.requires.ledgers c.args.a c.args.b l.left l.right l.level c.jump.result l.invariant.apart (omega arith)
    (c.jump.ensures.value ∙ ap (λ (r : Ledgers). jump_of r.headers l.left 0) l.invariant.goes_on.stays)

pub returns-clause-known : goal.returns-clause-known
returns-clause-known c =
    let l = c.loop-level in
    met_known c.args.self.now.ledgers.headers c.requires.ledgers c.args.a c.args.b l.left l.right l.level c.jump.result l.invariant.apart (c.jump.ensures.value ∙ ap (λ (r : Ledgers). jump_of r.headers l.left 0) l.invariant.goes_on.stays)
