-- a bit below the 64th that is set or cleared is then so, and every other bit is as it was
use Rattle.std.proofs.Common.{◌≡◌, ℕ, ◌<◌, ◌*◌, ◌%◌, ◌^◌, ◌∙◌, bit_and, bit_or, ap, sym, subst, arith, w64}
use Rattle.std.specs.Int.{bit_at, bit_not}
use Rattle.std.proofs.lemmas.Nat.Bits.{bit_at_set_same, bit_at_set_other, bit_at_clear_same, bit_at_clear_other}
use Rattle.xl_core.specs.Marks.{mark}
use Rattle.xl_core.proofs.the_core.marks.noted.Goals as goal

pub returns-then-idle-clause-own : goal.returns-then-idle-clause-own
returns-then-idle-clause-own c = λ place is.
    let r = c.reader_of.result in
    let here : r ≡ place = omega (arith, c.reader_of.ensures.place, is) in
    let low : r < 64 = omega (arith, c.reader_of.ensures.most) in
    subst (λ (p : ℕ). bit_at (bit_and c.args.marks (bit_not w64 (1 * 2 ^ r % 2 ^ 64))) p ≡ mark c.args.idle) here
    (bit_at_clear_same w64 c.args.marks r low ∙ sym (ap mark c.if-idle.true))

pub returns-then-idle-clause-others : goal.returns-then-idle-clause-others
returns-then-idle-clause-others c = λ place lt ne.
    let r = c.reader_of.result in
    let low : r < 64 = omega (arith, c.reader_of.ensures.most) in
    bit_at_clear_other w64 c.args.marks r low place lt (λ same. ne (omega (arith, c.reader_of.ensures.place, same)))

pub returns-else-idle-clause-own : goal.returns-else-idle-clause-own
returns-else-idle-clause-own c = λ place is.
    let r = c.reader_of.result in
    let here : r ≡ place = omega (arith, c.reader_of.ensures.place, is) in
    let low : r < 64 = omega (arith, c.reader_of.ensures.most) in
    subst (λ (p : ℕ). bit_at (bit_or c.args.marks (1 * 2 ^ r % 2 ^ 64)) p ≡ mark c.args.idle) here
    (bit_at_set_same w64 c.args.marks r low ∙ sym (ap mark c.if-idle.false))

pub returns-else-idle-clause-others : goal.returns-else-idle-clause-others
returns-else-idle-clause-others c = λ place lt ne.
    let r = c.reader_of.result in
    let low : r < 64 = omega (arith, c.reader_of.ensures.most) in
    bit_at_set_other w64 c.args.marks r low place (λ same. ne (omega (arith, c.reader_of.ensures.place, same)))
