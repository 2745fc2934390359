-- a position that goes leaves what lies above the last place unused, and weights change no set
use Rattle.std.proofs.Common.{None, vec_capacity, set, ap, ◌∙◌}
use Rattle.std.proofs.lemmas.List.{length-set}
use Rattle.xl_disputes.specs.Disputes.{without_position}
use Rattle.xl_disputes.specs.Standings.{known_of}
use Rattle.xl_disputes.proofs.Keeping.{moved_unsettled}
use Rattle.xl_disputes.proofs.Unused.{last_unnamed}
use Rattle.xl_disputes.proofs.disputes.Disputes.leave.Goals as goal

pub invariant_of-self : goal.invariant_of-self
invariant_of-self c =
    moved_unsettled c.self.inside.shares c.self.inside.positions (set c.self.inside.positions c.place_of.result None) c.self.inside.last c.self.inside.last
    (vec_capacity c.self.inside.next) c.self.inside.settled c.self.invariant (length-set c.self.inside.positions c.place_of.result None ∙ c.self.invariant.able.count)
    (last_unnamed c.self.inside.last c.place_of.result c.self.inside.shares c.self.inside.positions c.self.invariant.ends)

pub returns : goal.returns
returns c =
    ap (λ n. known_of c.self.inside.shares (set c.self.inside.positions n None)) c.place_of.ensures.value
    ∙ ap (λ k. without_position k c.args.member) c.self.view_is
