-- our own set is at place 0, so what lies above the last place stays unused, and weights change no set
use Rattle.std.proofs.Common.{Some, vec_capacity, ap, sym, subst, ◌∙◌, arith}
use Rattle.xl_disputes.specs.Disputes.{with_own}
use Rattle.xl_disputes.specs.Holdings.{with_set}
use Rattle.xl_disputes.specs.Standings.{IsLast, IsWeighable}
use Rattle.xl_disputes.proofs.Keeping.{unsettled, own_weighable, own_known}
use Rattle.xl_disputes.proofs.Unused.{last_held}
use Rattle.xl_disputes.proofs.disputes.Disputes.own_with.Goals as goal
use Rattle.xl_disputes.proofs.disputes.Disputes.own_with.Goals.{After-take}

before : (c : After-take) → IsWeighable c.self.inside.shares c.self.inside.positions
before c = c.self.invariant.able

after : (c : After-take) → IsWeighable c.take.new.self c.self.inside.positions
after c = own_weighable c.args.set.now c.self.inside.shares c.take.new.self c.self.inside.positions c.take.ensures.taken (before c)

ends : (c : After-take) → IsLast c.self.inside.last c.take.new.self c.self.inside.positions
ends c =
    subst (λ hs. IsLast c.self.inside.last hs c.self.inside.positions) (sym c.take.ensures.taken)
    (last_held (with_set (Some c.args.set.now)) c.self.inside.last 0 c.self.inside.shares c.self.inside.positions (omega arith) c.self.invariant.ends)

pub invariant_of-self : goal.invariant_of-self
invariant_of-self c =
    let taken = (goal.at.invariant_of-self c).After-take in
    unsettled c.take.new.self c.self.inside.positions c.self.inside.last (vec_capacity c.self.inside.next) (after taken) (ends taken) c.self.invariant.roomy

pub returns : goal.returns
returns c =
    own_known c.args.set.now c.self.inside.shares c.take.new.self c.self.inside.positions c.take.ensures.taken (before (goal.at.returns c).After-take)
    ∙ ap (λ k. with_own k c.args.set.now) c.self.view_is
