-- without positions what lies above the last place is as unused as before, and weights change no set
use Rattle.std.proofs.Common.{List, length, Option, vec_capacity, sym, ap, subst, ◌∙◌}
use Rattle.xl_base.specs.declared.ids.SetId.{SetId}
use Rattle.xl_disputes.specs.Disputes.{without_positions}
use Rattle.xl_disputes.specs.Standings.{known_of, IsLast}
use Rattle.xl_disputes.proofs.Keeping.{moved_unsettled}
use Rattle.xl_disputes.proofs.Unused.{last_cleared}
use Rattle.xl_disputes.proofs.disputes.Disputes.clear.Goals as goal
use Rattle.xl_disputes.proofs.disputes.Disputes.clear.Goals.{After-clear_first}

ends : (c : After-clear_first) → IsLast c.self.inside.last c.self.inside.shares c.clear_first.new.positions
ends c =
    subst (λ (ps : List (Option SetId)). IsLast c.self.inside.last c.self.inside.shares ps) (sym c.clear_first.ensures)
    (last_cleared c.self.inside.last c.self.inside.shares c.self.inside.positions c.self.invariant.ends)

pub invariant_of-self : goal.invariant_of-self
invariant_of-self c =
    moved_unsettled c.self.inside.shares c.self.inside.positions c.clear_first.new.positions c.self.inside.last c.self.inside.last (vec_capacity c.self.inside.next) c.self.inside.settled
    c.self.invariant (ap length c.clear_first.ensures) (ends (goal.at.invariant_of-self c).After-clear_first)

pub returns : goal.returns
returns c =
    ap (λ (ps : List (Option SetId)). known_of c.self.inside.shares ps) c.clear_first.ensures ∙ ap without_positions c.self.view_is
