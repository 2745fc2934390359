-- a set and a position that go leave what lies above the last place unused, and weights change no set
use Rattle.std.proofs.Common.{◌-◌, None, vec_capacity, set, ap, sym, subst, ◌∙◌}
use Rattle.std.proofs.lemmas.List.{length-set}
use Rattle.xl_disputes.specs.Disputes.{Known, without_member}
use Rattle.xl_disputes.specs.Standings.{own_ids, held_in, IsLast, IsWeighable}
use Rattle.xl_disputes.proofs.Keeping.{unsettled, member_weighable, member_known, moved_weighable}
use Rattle.xl_disputes.proofs.Unused.{last_released, last_unnamed}
use Rattle.xl_disputes.proofs.disputes.Disputes.forget.Goals as goal
use Rattle.xl_disputes.proofs.disputes.Disputes.forget.Goals.{After-place_of}

before : (c : After-place_of) → IsWeighable c.self.inside.shares c.self.inside.positions
before c = c.self.invariant.able

after : (c : After-place_of) → IsWeighable c.release.new.self (set c.self.inside.positions c.place_of.result None)
after c =
    moved_weighable c.release.new.self c.self.inside.positions (set c.self.inside.positions c.place_of.result None)
    (length-set c.self.inside.positions c.place_of.result None ∙ c.self.invariant.able.count)
    (member_weighable None c.holding_of.result c.holding_of.ensures.some c.self.inside.shares c.release.new.self c.self.inside.positions c.release.ensures (before c))

ends : (c : After-place_of) → IsLast c.self.inside.last c.release.new.self (set c.self.inside.positions c.place_of.result None)
ends c =
    last_unnamed c.self.inside.last c.place_of.result c.release.new.self c.self.inside.positions
    (subst (λ hs. IsLast c.self.inside.last hs c.self.inside.positions) (sym c.release.ensures)
    (last_released c.self.inside.last c.holding_of.result c.self.inside.shares c.self.inside.positions c.self.invariant.ends))

pub invariant_of-self : goal.invariant_of-self
invariant_of-self c =
    let gone = (goal.at.invariant_of-self c).After-place_of in
    unsettled c.release.new.self (set c.self.inside.positions c.place_of.result None) c.self.inside.last (vec_capacity c.self.inside.next)
    (after gone) (ends gone) c.self.invariant.roomy

pub returns : goal.returns
returns c =
    ap (λ (k : Known). record k { positions = set c.self.inside.positions c.place_of.result None })
    (member_known None c.holding_of.result c.holding_of.ensures.some c.self.inside.shares c.release.new.self c.self.inside.positions c.release.ensures
    (before (goal.at.returns c).After-place_of))
    ∙ ap (λ n. record { own = own_ids c.self.inside.shares; held = set (held_in c.self.inside.shares) (n - 1) None; positions = set c.self.inside.positions c.place_of.result None }) c.holding_of.ensures.value
    ∙ ap (λ n. record { own = own_ids c.self.inside.shares; held = set (held_in c.self.inside.shares) (c.args.member - 1) None; positions = set c.self.inside.positions n None }) c.place_of.ensures.value
    ∙ ap (λ k. without_member k c.args.member) c.self.view_is
