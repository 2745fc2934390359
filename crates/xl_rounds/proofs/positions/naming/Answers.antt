-- places passed over have no position to name a set, so the count is that of all places so far, 64 at most
use Rattle.std.proofs.Common.{◌≡◌, ◌+◌, ◌<◌, ◌∙◌, arith, ap, length, take, refl, sym, None}
use Rattle.std.specs.Prelude.{count_by}
use Rattle.std.proofs.lemmas.List.{take_all}
use Rattle.std.proofs.lemmas.List.Sums.{count_by_more_yes, count_by_more_no, count_by-le-length}
use Rattle.xl_rounds.specs.Positions.{names}
use Rattle.xl_rounds.proofs.Skipping.{count_skipped}
use Rattle.xl_rounds.proofs.positions.naming.Goals as goal
use Rattle.xl_rounds.proofs.positions.naming.Goals.{then-names, else-names, After-loop-place}

pub loop-place-init : goal.loop-place-init
loop-place-init c =
    let next = c.next-place in (
      next.ensures.within,
      count_skipped (names c.args.id.now) refl c.args.members.now 0 next.result 0 next.ensures.later (omega (arith, next.ensures.within, c.requires.places)) next.ensures.passed refl,
    )

pub loop-place-preserved : goal.loop-place-preserved
loop-place-preserved c =
    let members = c.args.members.now in
    let p = names c.args.id.now in
    let i = c.loop-place.place in
    let within : i < length members = omega (arith, c.loop-place-test.true, c.requires.places) in
    let test = ap p (sym c.at.ensures) ∙ sym c.names.ensures in
    let next = c.next-place-in-loop-place in
    let counted : c.if-names.count ≡ count_by p (take (i + 1) members) =
    elim c.if-names.branch [
      | then-names w ↦ w.count-is ∙ ap (λ n. n + 1) c.loop-place.invariant.1 ∙ sym (count_by_more_yes p members i None within (test ∙ w.if-names.true))
      | else-names w ↦ w.count-is ∙ c.loop-place.invariant.1 ∙ sym (count_by_more_no p members i None within (test ∙ w.if-names.false))
    ] in (
      next.ensures.within,
      count_skipped p refl members (i + 1) next.result c.if-names.count next.ensures.later (omega (arith, next.ensures.within, c.requires.places)) next.ensures.passed counted,
    )

all : (c : After-loop-place) → c.loop-place.count ≡ count_by (names c.args.id.now) c.args.members.now
all c = c.loop-place.invariant.1 ∙ ap (count_by (names c.args.id.now)) (take_all c.loop-place.place c.args.members.now (omega (arith, c.loop-place-test.false, c.requires.places)))

pub returns-clause-value : goal.returns-clause-value
returns-clause-value c = all c

pub returns-clause-most : goal.returns-clause-most
returns-clause-most c = omega (arith, all c, count_by-le-length (names c.args.id.now) c.args.members.now, c.requires.places)
