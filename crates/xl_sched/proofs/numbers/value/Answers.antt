-- a number is at least what its first digits write, so once these are beyond 64 bits the whole number is too
use Rattle.std.proofs.Common.{◌<◌, ◌^◌, sym, ◌∙◌, arith}
use Rattle.std.specs.Str.Parse.{digits_value_after}
use Rattle.std.proofs.lemmas.List.{at_drop_all}
use Rattle.xl_sched.specs.Numbers.{value_of}
use Rattle.xl_sched.proofs.NumberLemmas.{digits_value_after-step, digit_value-here}
use Rattle.xl_sched.proofs.numbers.value.Goals as goal

pub returns-in_err-checked_mul : goal.returns-in_err-checked_mul
returns-in_err-checked_mul c =
    let digits = c.args.digits.now in
    let least = digits_value_after-step digits c.loop-digit.digit-index c.loop-digit.value c.loop-digit-test.true in
    let whole = c.loop-digit.invariant.1 in
    let great : value_of digits < 2 ^ 64 → ⊥ = λ h. c.in_err-checked_mul.ensures (omega (arith, least, whole)) in
    rw c.from_residual.ensures great

pub returns-in_err-value : goal.returns-in_err-value
returns-in_err-value c =
    let digits = c.args.digits.now in
    let least = digits_value_after-step digits c.loop-digit.digit-index c.loop-digit.value c.loop-digit-test.true in
    let digit = digit_value-here digits c.loop-digit.digit-index c.loop-digit-test.true c.loop-digit.invariant.2 in
    let whole = c.loop-digit.invariant.1 in
    let product = c.in_ok-checked_mul.ensures.1 in
    let great : value_of digits < 2 ^ 64 → ⊥ = λ h. c.in_err-value.ensures (omega (arith, least, whole, digit, product, c.from.ensures)) in
    rw c.from_residual-in_err-value.ensures great

pub returns : goal.returns
returns c =
    let end = at_drop_all (digits_value_after 10 c.loop-digit.value) c.args.digits.now c.loop-digit.digit-index c.loop-digit-test.false in
    let same = sym end ∙ c.loop-digit.invariant.1 in
    (omega (arith, same, c.loop-digit.invariant.0), same)
