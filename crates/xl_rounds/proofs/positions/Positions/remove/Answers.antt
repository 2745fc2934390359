use Rattle.std.proofs.Common.{List, Option, ◌-◌, ap, subst, sym, ◌∙◌, None, set, arith}
use Rattle.xl_wire.specs.declared.proposal.Proposal.{Proposal}
use Rattle.xl_disputes.specs.Disputes.{Known}
use Rattle.xl_rounds.specs.Rest.{one_if, AreNamed}
use Rattle.xl_rounds.proofs.PositionLaws.{was_counted, named_set}
use Rattle.xl_rounds.proofs.positions.Positions.remove.Goals as goal

pub invariant_of-self : goal.invariant_of-self
invariant_of-self c =
    let a = c.self.inside in
    let place = c.place_of-place.result in
    let was = c.one_if-had.ensures.value ∙ ap one_if c.at.ensures in
    let new = a.count - c.one_if-had.result in
    let named = ap (λ (k : Known). k.positions) c.leave.ensures ∙ ap (λ n. set a.disputes.positions n None) (sym c.place_of-place.ensures.value) in
    subst (λ (ms : List (Option Proposal)). AreNamed ms new c.leave.new.self.positions) (sym c.remove.ensures)
    (subst (AreNamed (set a.members place None) new) (sym named)
    (named_set a.members a.count a.disputes.positions c.self.invariant place new None None c.place_of-place.ensures.within
    (omega (arith, was, was_counted a.members a.count a.disputes.positions c.self.invariant place None c.place_of-place.ensures.within))))
