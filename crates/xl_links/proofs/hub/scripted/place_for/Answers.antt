-- none of the links passed is to the member, so the first one that is decides
use Rattle.std.proofs.Common.{◌≡◌, length, arith, subst}
use Rattle.std.proofs.lemmas.Bool.Decides.{nat_tests}
use native.Mathlib.Numerals.{unary_clauses}
use Rattle.xl_links.proofs.Firsts.{NoneBefore, none_more, place_found, none_found}
use Rattle.xl_links.proofs.hub.scripted.place_for.Goals as goal

pub returns-then-eq : goal.returns-then-eq
returns-then-eq g c =
    place_found c.args.spares.now c.args.member c.loop-place.place c.index-spares-place.result c.loop-place-test.true
    c.loop-place.invariant c.index-spares-place.is (grind (arith, nat_tests))

pub loop-place-preserved : goal.loop-place-preserved
loop-place-preserved g c =
    let more = none_more c.args.spares.now c.args.member c.loop-place.place c.index-spares-place.result c.loop-place.invariant
    c.index-spares-place.is (λ same. grind (arith, nat_tests)) in
    simp unary_clauses more

pub returns : goal.returns
returns g c =
    let all : c.loop-place.place ≡ length c.args.spares.now = omega (arith, c.loop-place-test.false, c.loop-place.auto.place-end) in
    none_found c.args.spares.now c.args.member (subst (NoneBefore c.args.spares.now c.args.member) all c.loop-place.invariant)
