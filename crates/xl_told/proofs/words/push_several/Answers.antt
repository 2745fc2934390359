-- the hundreds, and then two digits
use Rattle.std.proofs.Common.{◌≡◌, List, ℕ, ◌/◌, ◌%◌, ◌++◌, sym, subst, arith}
use Rattle.std.specs.Prelude.{OnOk, decimal}
use Rattle.std.specs.String.{string_bytes}
use Rattle.xl_told.proofs.Digits.{four_digits}
use Rattle.xl_told.proofs.Writing.{behind}
use Rattle.xl_told.proofs.words.push_several.Goals as goal

pub returns-then-number-lt10000 : goal.returns-then-number-lt10000
returns-then-number-lt10000 c =
    let n = c.args.number in
    behind (string_bytes c.args.text.now) (decimal (n / 100)) (decimal (n % 100 / 10)) (decimal (n % 100 % 10)) (decimal n)
    (string_bytes c.push_short-then-number-lt10000.new.text) (string_bytes c.push_pair.new.text) c.push_pair.result
    (four_digits n (omega (arith, c.if-number-lt100.false)) c.if-number-lt10000.true) c.in_ok-push_short.ensures c.push_pair.ensures
