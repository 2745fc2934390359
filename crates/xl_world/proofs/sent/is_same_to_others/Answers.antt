use Rattle.std.proofs.Common.{◌≡◌, ◌<◌, ◌+◌, ◌-◌, ◌∙◌, List, ℕ, arith, drop, length, sym, take}
use Rattle.std.proofs.lemmas.Bool.Decides.{nat_tests}
use Rattle.std.proofs.lemmas.List.{take_rest}
use Rattle.std.proofs.lemmas.Slice.Eq.{bytes_eq-Decides}
use Rattle.xl_world.specs.Sending.{address_place}
use Rattle.xl_world.proofs.Framing.{same_addressed}
use Rattle.xl_world.proofs.sent.is_same_to_others.Goals as goal

pub returns-then-eq : goal.returns-then-eq
returns-then-eq c = λ is.
    let one : List ℕ = c.args.one.now in
    let other : List ℕ = c.args.other.now in
    let long : length one ≡ length other = grind (arith, nat_tests) in
    let some : address_place < length one = omega (arith, c.if-one-le-ADDRESS.false) in
    let before : take address_place one ≡ take address_place other = (bytes_eq-Decides (take address_place one) (take address_place other)).0 (sym c.eq.ensures ∙ c.if-eq.true) in
    let next : ℕ = address_place + 1 in
    let behind : take (length one - next) (drop next one) ≡ take (length other - next) (drop next other) =
    (bytes_eq-Decides (take (length one - next) (drop next one)) (take (length other - next) (drop next other))).0 (sym c.eq-then-eq.ensures ∙ is) in
    same_addressed one other long some before (sym (take_rest one next) ∙ behind ∙ take_rest other next)
