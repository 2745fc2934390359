-- the disputes know which sets the positions name, so their winners are our next set
use Rattle.std.proofs.Common.{◌≡◌, ap, ◌∙◌}
use Rattle.std.specs.Prelude.{not}
use Rattle.xl_disputes.specs.Disputes.{Known}
use Rattle.xl_disputes.specs.Next.{winners}
use Rattle.xl_rounds.specs.Heartbeats.{is_same_set}
use Rattle.xl_rounds.specs.Positions.{Positions, next_set, with_own}
use Rattle.xl_rounds.proofs.PositionLaws.{changed_is}
use Rattle.xl_rounds.proofs.positions.Positions.update.Goals as goal
use Rattle.xl_rounds.proofs.positions.Positions.update.Goals.{After-update_with}

-- what the disputes know is read from the positions
next_is : (c : After-update_with) → winners c.self.inside.disputes c.args.needed c.args.proposing ≡ next_set c.args.needed c.args.proposing c.args.self.now
next_is c =
    ap (λ ps. winners (record c.self.inside.disputes { positions = ps }) c.args.needed c.args.proposing) c.self.invariant.sets
    ∙ ap (next_set c.args.needed c.args.proposing) c.self.view_is

pub returns-clause-changed : goal.returns-clause-changed
returns-clause-changed c =
    let a = c.self.inside in
    changed_is c.update_with.result (winners a.disputes c.args.needed c.args.proposing) a.disputes.own c.update_with.ensures.same
    ∙ ap (λ xs. not (is_same_set xs a.disputes.own)) (next_is (goal.at.returns-clause-changed c).After-update_with)
    ∙ ap (λ xs. not (is_same_set (next_set c.args.needed c.args.proposing c.args.self.now) xs)) (ap (λ (p : Positions). p.own) c.self.view_is)

pub returns-clause-voted : goal.returns-clause-voted
returns-clause-voted c =
    let a = c.self.inside in
    ap (λ (k : Known). record { members = a.members; held = k.held; own = k.own }) c.update_with.ensures.taken
    ∙ ap (λ xs. record { members = a.members; held = a.disputes.held; own = xs }) (next_is (goal.at.returns-clause-voted c).After-update_with)
    ∙ ap (with_own (next_set c.args.needed c.args.proposing c.args.self.now)) c.self.view_is
