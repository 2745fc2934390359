-- the last place is no lower than the member's, so none above it has a set, and weights change no set
use Rattle.std.proofs.Common.{Some, vec_capacity, ap, sym, subst, ◌∙◌, arith}
use Rattle.xl_disputes.specs.Disputes.{with_held}
use Rattle.xl_disputes.specs.Holdings.{with_set}
use Rattle.xl_disputes.specs.Standings.{known_of, IsLast, IsWeighable}
use Rattle.xl_disputes.proofs.Keeping.{unsettled, member_weighable, member_known}
use Rattle.xl_disputes.proofs.Unused.{later_last, last_held}
use Rattle.xl_disputes.proofs.disputes.Disputes.hold_with.Goals as goal
use Rattle.xl_disputes.proofs.disputes.Disputes.hold_with.Goals.{After-max-self-inside}

before : (c : After-max-self-inside) → IsWeighable c.self.inside.shares c.self.inside.positions
before c = c.self.invariant.able

after : (c : After-max-self-inside) → IsWeighable c.take-id.new.self c.self.inside.positions
after c =
    member_weighable (Some c.args.set.now) c.holding_of-place.result c.holding_of-place.ensures.some c.self.inside.shares c.take-id.new.self c.self.inside.positions c.take-id.ensures.taken
    (before c)

ends : (c : After-max-self-inside) → IsLast c.max-self-inside.result c.take-id.new.self c.self.inside.positions
ends c =
    subst (λ hs. IsLast c.max-self-inside.result hs c.self.inside.positions) (sym c.take-id.ensures.taken)
    (last_held (with_set (Some c.args.set.now)) c.max-self-inside.result c.holding_of-place.result c.self.inside.shares c.self.inside.positions (omega (arith, c.max-self-inside.ensures))
    (later_last c.self.inside.last c.max-self-inside.result c.self.inside.shares c.self.inside.positions (omega (arith, c.max-self-inside.ensures))
    (omega (arith, c.max-self-inside.ensures, c.self.invariant.ends.within, c.holding_of-place.ensures.within)) c.self.invariant.ends))

pub invariant_of-self : goal.invariant_of-self
invariant_of-self c =
    let taken = (goal.at.invariant_of-self c).After-max-self-inside in
    unsettled c.take-id.new.self c.self.inside.positions c.max-self-inside.result (vec_capacity c.self.inside.next) (after taken) (ends taken) c.self.invariant.roomy

pub returns-clause-taken : goal.returns-clause-taken
returns-clause-taken c =
    member_known (Some c.args.set.now) c.holding_of-place.result c.holding_of-place.ensures.some c.self.inside.shares c.take-id.new.self c.self.inside.positions c.take-id.ensures.taken
    (before (goal.at.returns-clause-taken c).After-max-self-inside)
    ∙ ap (λ n. with_held (known_of c.self.inside.shares c.self.inside.positions) n c.args.set.now) c.holding_of-place.ensures.value
    ∙ ap (λ k. with_held k c.args.member c.args.set.now) c.self.view_is
