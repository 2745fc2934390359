use Rattle.std.proofs.Common.{◌≡◌, ◌≢◌, ◌∙◌, ℕ, ◌+◌, ◌*◌, ◌%◌, ◌^◌, ap, arith, bit_and, sym, w64}
use Rattle.std.specs.Int.{bit_at, bit_not}
use Rattle.std.proofs.lemmas.Bool.{eqb-true}
use Rattle.std.proofs.lemmas.Nat.Bits.{bit_at-zero, bit_at_clear_other}
use Rattle.xl_core.specs.Node.{Node}
use Rattle.xl_world.proofs.Idling.{bit_idle}
use Rattle.xl_world.proofs.members.nothing_left.Goals as goal

pub returns : goal.returns
returns c = λ empty place lt marked other.
    let r = c.place_of.result in
    let word = bit_and c.waiting.result c.args.marks in
    let none : bit_and word (bit_not w64 (1 * 2 ^ r % 2 ^ 64)) ≡ 0 = eqb-true _ 0 empty in
    let mine : r + 1 ≡ c.args.core.now.node.me = c.place_of.ensures.place ∙ (c.me.ensures ∙ ap (λ (n : Node). n.me) c.node.ensures.value) in
    let elsewhere : place ≢ r = λ same. other (omega (arith, same, mine)) in
    bit_idle c.args.core.now c.waiting.result c.args.marks place c.waiting.ensures lt marked
    (sym (bit_at_clear_other w64 word r c.place_of.ensures.most place lt elsewhere) ∙ (ap (λ (n : ℕ). bit_at n place) none ∙ bit_at-zero place))
