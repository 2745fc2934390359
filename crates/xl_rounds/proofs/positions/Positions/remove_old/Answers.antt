-- places passed over have no position, which removing leaves as it is, so each place is changed as if in turn
use Rattle.std.proofs.Common.{◌≡◌, ◌+◌, ◌++◌, arith, ap, refl, sym, subst, ◌∙◌, length, map, take, drop, List, Option, None}
use Rattle.xl_wire.specs.declared.proposal.Proposal.{Proposal}
use Rattle.xl_rounds.specs.Positions.{Positions, unless_old}
use Rattle.xl_rounds.specs.Rest.{without_old_at}
use Rattle.xl_rounds.proofs.PositionLaws.{map_next, map_done}
use Rattle.xl_rounds.proofs.Skipping.{ArePassed, changes_skipped}
use Rattle.xl_rounds.proofs.positions.Positions.remove_old.Goals as goal

pub loop-place-init : goal.loop-place-init
loop-place-init c =
    let a = c.args.self.now in
    let next = c.next-place in
    let places : length a.members ≡ 64 = ap (λ (p : Positions). length p.members) (sym c.self.view_is) ∙ c.self.invariant.places in
    let passed : ArePassed a.members 0 next.result = subst (λ (p : Positions). ArePassed p.members 0 next.result) c.self.view_is next.ensures.passed in (
      next.ensures.within,
      ap (λ (ms : List (Option Proposal)). record a { members = ms })
          (changes_skipped (unless_old c.args.now) refl a.members a.members 0 next.result next.ensures.later (omega (arith, next.ensures.within, places)) passed refl),
    )

pub loop-place-preserved : goal.loop-place-preserved
loop-place-preserved c =
    let a = c.args.self.now in
    let f = unless_old c.args.now in
    let i = c.loop-place.place in
    let now : Positions = c.remove_if_old.new.self in
    let next = c.next-place-in-loop-place in
    let places : length a.members ≡ 64 = ap (λ (p : Positions). length p.members) (sym c.self.view_is) ∙ c.self.invariant.places in
    let passed : ArePassed now.members (i + 1) next.result = subst (λ (p : Positions). ArePassed p.members (i + 1) next.result) c.self-in-loop-place.view_is next.ensures.passed in
    let one : now ≡ record a { members = map f (take (i + 1) a.members) ++ drop (i + 1) a.members } =
    c.remove_if_old.ensures
    ∙ ap (without_old_at c.args.now i) c.loop-place.invariant.1
    ∙ ap (λ (ms : List (Option Proposal)). record a { members = ms }) (map_next f a.members i None (omega (arith, c.loop-place-test.true, places))) in
    let more = changes_skipped f refl a.members now.members (i + 1) next.result next.ensures.later (omega (arith, next.ensures.within, places)) passed (ap (λ (p : Positions). p.members) one) in (
      next.ensures.within,
      one ∙ ap (λ (ms : List (Option Proposal)). record a { members = ms }) (sym (ap (λ (p : Positions). p.members) one) ∙ more),
    )

pub returns : goal.returns
returns c =
    let a = c.args.self.now in
    let places : length a.members ≡ 64 = ap (λ (p : Positions). length p.members) (sym c.self.view_is) ∙ c.self.invariant.places in
    c.loop-place.invariant.1
    ∙ ap (λ (ms : List (Option Proposal)). record a { members = ms }) (map_done (unless_old c.args.now) a.members c.loop-place.place (omega (arith, c.loop-place-test.false, places)))
