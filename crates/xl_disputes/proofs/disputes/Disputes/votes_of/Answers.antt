use Rattle.std.proofs.Common.{◌≡◌, ap, vec_capacity, ◌∙◌}
use Rattle.xl_disputes.specs.Disputes.{votes_of}
use Rattle.xl_disputes.specs.Standings.{IsKept, known_of}
use Rattle.xl_disputes.proofs.Keeping.{kept_settled, known_settled, settled}
use Rattle.xl_disputes.proofs.Votings.{told_votes, told_none}
use Rattle.xl_disputes.proofs.disputes.Disputes.votes_of.Goals as goal
use Rattle.xl_disputes.proofs.disputes.Disputes.votes_of.Goals.{After-settle_unless, Joined-is_none, then-is_none, else-is_none}

kept : (c : After-settle_unless) → IsKept c.settle_unless.new.shares c.self.inside.positions
kept c = kept_settled c.self.inside.shares c.settle_unless.new.shares c.self.inside.positions c.self.invariant.able c.settle_unless.ensures

pub invariant_of-self : goal.invariant_of-self
invariant_of-self c =
    settled c.self.inside.shares c.settle_unless.new.shares c.self.inside.positions c.self.inside.last (vec_capacity c.self.inside.next) c.self.invariant.able c.self.invariant.ends c.self.invariant.roomy
    c.settle_unless.ensures

pub tally-tally-requires : goal.tally-tally-requires
tally-tally-requires c = (kept (goal.at.tally-tally-requires c).After-settle_unless).bits

told_is : (c : Joined-is_none) → c.if-is_none.result ≡ votes_of (known_of c.settle_unless.new.shares c.self.inside.positions) c.args.tx.now
told_is c =
    let its : IsKept c.settle_unless.new.shares c.self.inside.positions = kept_settled c.self.inside.shares c.settle_unless.new.shares c.self.inside.positions c.self.invariant.able c.settle_unless.ensures in
    elim c.if-is_none.branch [
      | then-is_none w ↦ w.result-is
          ∙ told_none c.settle_unless.new.shares c.self.inside.positions its c.args.tx.now c.tally-tally.result c.tally-tally.ensures.value c.is_none.result c.is_none.ensures w.if-is_none.true
      | else-is_none w ↦ w.result-is
          ∙ told_votes c.settle_unless.new.shares c.self.inside.positions its c.args.tx.now c.tally-tally.result c.tally-tally.ensures.value c.is_none.result c.is_none.ensures w.voters.result w.votes.result w.voters.ensures w.votes.ensures w.if-is_none.false
    ]

pub returns-clause-value : goal.returns-clause-value
returns-clause-value c =
    told_is (goal.at.returns-clause-value c).Joined-is_none
    ∙ ap (λ k. votes_of k c.args.tx.now) (known_settled c.self.inside.shares c.settle_unless.new.shares c.self.inside.positions c.settle_unless.ensures ∙ c.self.view_is)

pub returns-clause-same : goal.returns-clause-same
returns-clause-same c = known_settled c.self.inside.shares c.settle_unless.new.shares c.self.inside.positions c.settle_unless.ensures ∙ c.self.view_is
