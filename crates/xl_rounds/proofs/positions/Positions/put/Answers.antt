use Rattle.std.proofs.Common.{List, Option, ◌+◌, ◌-◌, ap, subst, sym, ◌∙◌, Some, None, set, arith}
use Rattle.xl_wire.specs.declared.proposal.Proposal.{Proposal}
use Rattle.xl_disputes.specs.Disputes.{Known}
use Rattle.xl_rounds.specs.Rest.{one_if, AreNamed}
use Rattle.xl_rounds.proofs.PositionLaws.{named_set}
use Rattle.xl_rounds.proofs.positions.Positions.put.Goals as goal

pub invariant_of-self : goal.invariant_of-self
invariant_of-self c =
    let a = c.self.inside in
    let place = c.place_of-place.result in
    let was = c.one_if-had.ensures.value ∙ ap one_if c.at.ensures in
    let position = Some c.args.p.now in
    let new = a.count + 1 - c.one_if-had.result in
    let named = ap (λ (k : Known). k.positions) c.position.ensures ∙ ap (λ n. set a.disputes.positions n (Some c.args.p.now.set)) (sym c.place_of-place.ensures.value) in
    subst (λ (ms : List (Option Proposal)). AreNamed ms new c.position.new.self.positions) (sym c.put.ensures)
    (subst (AreNamed (set a.members place position) new) (sym named)
    (named_set a.members a.count a.disputes.positions c.self.invariant place new position None c.place_of-place.ensures.within (omega (arith, was, c.one_if-had.ensures.most))))
