-- the last place is no lower than the member's, so what lies above it is unused, and weights change no set
use Rattle.std.proofs.Common.{Some, vec_capacity, set, ap, ◌∙◌, arith}
use Rattle.std.proofs.lemmas.List.{length-set}
use Rattle.xl_disputes.specs.Disputes.{with_position}
use Rattle.xl_disputes.specs.Standings.{known_of, IsLast}
use Rattle.xl_disputes.proofs.Keeping.{moved_unsettled}
use Rattle.xl_disputes.proofs.Unused.{later_last, last_named}
use Rattle.xl_disputes.proofs.disputes.Disputes.position.Goals as goal
use Rattle.xl_disputes.proofs.disputes.Disputes.position.Goals.{After-max-self-inside}

ends : (c : After-max-self-inside) → IsLast c.max-self-inside.result c.self.inside.shares (set c.self.inside.positions c.place_of.result (Some c.args.set))
ends c =
    last_named c.max-self-inside.result c.place_of.result (Some c.args.set) c.self.inside.shares c.self.inside.positions
    (omega (arith, c.max-self-inside.ensures, c.place_of.ensures.value, c.holding_of.ensures.value, c.holding_of.ensures.some))
    (later_last c.self.inside.last c.max-self-inside.result c.self.inside.shares c.self.inside.positions (omega (arith, c.max-self-inside.ensures))
    (omega (arith, c.max-self-inside.ensures, c.self.invariant.ends.within, c.holding_of.ensures.within)) c.self.invariant.ends)

pub invariant_of-self : goal.invariant_of-self
invariant_of-self c =
    moved_unsettled c.self.inside.shares c.self.inside.positions (set c.self.inside.positions c.place_of.result (Some c.args.set)) c.self.inside.last c.max-self-inside.result
    (vec_capacity c.self.inside.next) c.self.inside.settled c.self.invariant (length-set c.self.inside.positions c.place_of.result (Some c.args.set) ∙ c.self.invariant.able.count)
    (ends (goal.at.invariant_of-self c).After-max-self-inside)

pub returns : goal.returns
returns c =
    ap (λ n. known_of c.self.inside.shares (set c.self.inside.positions n (Some c.args.set))) c.place_of.ensures.value
    ∙ ap (λ k. with_position k c.args.member c.args.set) c.self.view_is
