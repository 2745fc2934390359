-- what is picked are the winners, each of them in a counted set, and they are put if they aren't our set
use Rattle.std.proofs.Common.{◌≡◌, Some, true, vec_capacity, ap, sym, subst, ◌∙◌, arith}
use Rattle.std.specs.Prelude.{◌↔◌, ◌≢◌, IsTrue, IsFalse}
use Rattle.xl_disputes.specs.Disputes.{Known, with_own}
use Rattle.xl_disputes.specs.Next.{winners}
use Rattle.xl_disputes.specs.Holdings.{with_set}
use Rattle.xl_disputes.specs.Standings.{known_of, IsKept, IsLast, IsReady, IsWeighable}
use Rattle.xl_disputes.proofs.Ordered.{differ}
use Rattle.xl_disputes.proofs.Picking.{next_is, next_counted}
use Rattle.xl_disputes.proofs.Keeping.{kept_settled, known_settled, settled, unsettled, own_weighable, own_known}
use Rattle.xl_disputes.proofs.Unused.{last_held}
use Rattle.xl_disputes.proofs.disputes.Disputes.update_with.Goals as goal
use Rattle.xl_disputes.proofs.disputes.Disputes.update_with.Goals.{After-ne-changed, After-replace}

ready : (c : After-ne-changed) → IsReady c.settle_unless.new.shares c.self.inside.positions c.self.inside.last (vec_capacity c.pick.new.next) true
ready c =
    settled c.self.inside.shares c.settle_unless.new.shares c.self.inside.positions c.self.inside.last (vec_capacity c.pick.new.next) c.self.invariant.able c.self.invariant.ends
    (omega (arith, c.self.invariant.roomy, c.pick.ensures.room)) c.settle_unless.ensures

kept : (c : After-ne-changed) → IsKept c.settle_unless.new.shares c.self.inside.positions
kept c = kept_settled c.self.inside.shares c.settle_unless.new.shares c.self.inside.positions c.self.invariant.able c.settle_unless.ensures

known : (c : After-ne-changed) → known_of c.settle_unless.new.shares c.self.inside.positions ≡ c.args.self.now
known c = known_settled c.self.inside.shares c.settle_unless.new.shares c.self.inside.positions c.settle_unless.ensures ∙ c.self.view_is

pub own-requires : goal.own-requires
own-requires c = (kept_settled c.self.inside.shares c.settle_unless.new.shares c.self.inside.positions c.self.invariant.able c.settle_unless.ensures).own

is_next : (c : After-ne-changed) → c.pick.new.next.items ≡ winners c.args.self.now c.args.needed c.args.proposing
is_next c =
    c.pick.ensures.value
    ∙ next_is c.settle_unless.new.shares c.self.inside.positions c.args.needed c.args.proposing (kept c) (kept c).places
    ∙ ap (λ k. winners k c.args.needed c.args.proposing) (known c)

-- what the code's `!=` says
tested : (c : After-ne-changed) →
    (IsTrue c.ne-changed.result ↔ (winners c.args.self.now c.args.needed c.args.proposing ≢ c.args.self.now.own))
    × (IsFalse c.ne-changed.result ↔ (winners c.args.self.now c.args.needed c.args.proposing ≡ c.args.self.now.own))
tested c =
    differ (winners c.args.self.now c.args.needed c.args.proposing) c.args.self.now.own c.as_slice.result.now c.ids.result.now c.ne-changed.result
    (c.as_slice.ensures.value ∙ is_next c) (c.ids.ensures.value ∙ c.own.ensures ∙ ap (λ (k : Known). k.own) (known c)) c.ne-changed.ensures

before : (c : After-ne-changed) → IsWeighable c.settle_unless.new.shares c.self.inside.positions
before c = (ready c).able

pub replace-requires-clause-counted : goal.replace-requires-clause-counted
replace-requires-clause-counted c =
    next_counted c.settle_unless.new.shares c.args.needed c.args.proposing c.deref.result.now (c.deref.ensures.value ∙ c.pick.ensures.value)

after : (c : After-replace) → IsWeighable c.replace.new.self c.self.inside.positions
after c =
    own_weighable c.deref.result.now c.settle_unless.new.shares c.replace.new.self c.self.inside.positions c.replace.ensures (settled c.self.inside.shares c.settle_unless.new.shares c.self.inside.positions c.self.inside.last (vec_capacity c.self.inside.next) c.self.invariant.able c.self.invariant.ends c.self.invariant.roomy
    c.settle_unless.ensures).able

ends : (c : After-replace) → IsLast c.self.inside.last c.replace.new.self c.self.inside.positions
ends c =
    subst (λ hs. IsLast c.self.inside.last hs c.self.inside.positions) (sym c.replace.ensures)
    (last_held (with_set (Some c.deref.result.now)) c.self.inside.last 0 c.settle_unless.new.shares c.self.inside.positions (omega arith) (settled c.self.inside.shares c.settle_unless.new.shares c.self.inside.positions c.self.inside.last (vec_capacity c.self.inside.next) c.self.invariant.able c.self.invariant.ends c.self.invariant.roomy
    c.settle_unless.ensures).ends)

pub invariant_of-self : goal.invariant_of-self
invariant_of-self c =
    let put = (goal.at.invariant_of-self c).After-replace in
    unsettled c.replace.new.self c.self.inside.positions c.self.inside.last (vec_capacity c.pick.new.next) (after put) (ends put)
    (omega (arith, c.self.invariant.roomy, c.pick.ensures.room))

pub invariant_of-self-else-changed : goal.invariant_of-self-else-changed
invariant_of-self-else-changed c = ready (goal.at.invariant_of-self-else-changed c).After-ne-changed

pub returns-then-changed-clause-changed : goal.returns-then-changed-clause-changed
returns-then-changed-clause-changed c = (tested (goal.at.returns-then-changed-clause-changed c).After-ne-changed).0

pub returns-then-changed-clause-same : goal.returns-then-changed-clause-same
returns-then-changed-clause-same c = (tested (goal.at.returns-then-changed-clause-same c).After-ne-changed).1

pub returns-then-changed-clause-taken : goal.returns-then-changed-clause-taken
returns-then-changed-clause-taken c =
    own_known c.deref.result.now c.settle_unless.new.shares c.replace.new.self c.self.inside.positions c.replace.ensures (before (goal.at.returns-then-changed-clause-taken c).After-ne-changed)
    ∙ ap (with_own (known_of c.settle_unless.new.shares c.self.inside.positions)) (c.deref.ensures.value ∙ is_next (goal.at.returns-then-changed-clause-taken c).After-ne-changed)
    ∙ ap (λ k. with_own k (winners c.args.self.now c.args.needed c.args.proposing)) (known (goal.at.returns-then-changed-clause-taken c).After-ne-changed)

pub returns-else-changed-clause-changed : goal.returns-else-changed-clause-changed
returns-else-changed-clause-changed c = (tested (goal.at.returns-else-changed-clause-changed c).After-ne-changed).0

pub returns-else-changed-clause-same : goal.returns-else-changed-clause-same
returns-else-changed-clause-same c = (tested (goal.at.returns-else-changed-clause-same c).After-ne-changed).1

pub returns-else-changed-clause-taken : goal.returns-else-changed-clause-taken
returns-else-changed-clause-taken c =
    known (goal.at.returns-else-changed-clause-taken c).After-ne-changed ∙ ap (with_own c.args.self.now) (sym ((tested (goal.at.returns-else-changed-clause-taken c).After-ne-changed).1.0 c.if-changed.false))
