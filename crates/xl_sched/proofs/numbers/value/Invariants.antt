use Rattle.std.proofs.Common.{◌≡◌, true, drop, ◌<◌, ◌^◌}
use Rattle.std.specs.List.{list_all}
use Rattle.std.specs.Char.{is_ascii_digit}
use Rattle.std.specs.Str.Parse.{digits_value_after}
use Rattle.xl_sched.specs.Numbers.{value_of}
use Rattle.xl_sched.proofs.numbers.value.Given as goal

abbrev pub invariant-loop-digit : goal.invariant-loop-digit
invariant-loop-digit l =
    (l.value < 2 ^ 64) × (digits_value_after 10 l.value (drop l.digit-index l.digits) ≡ value_of l.digits) × (list_all is_ascii_digit (drop l.digit-index l.digits) ≡ true)
