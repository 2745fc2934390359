-- one digit, or two
use Rattle.std.proofs.Common.{◌≡◌, List, ℕ, ◌/◌, ◌%◌, ◌++◌, sym, subst, ◌∙◌, append_assoc, arith}
use Rattle.std.specs.Prelude.{OnOk, decimal}
use Rattle.std.specs.String.{string_bytes}
use Rattle.xl_told.proofs.Digits.{two_digits}
use Rattle.xl_told.proofs.Writing.{in_one}
use Rattle.xl_told.proofs.words.push_short.Goals as goal

pub returns : goal.returns
returns c =
    let n = c.args.number in
    in_one (string_bytes c.args.text.now) (decimal (n / 10)) (decimal (n % 10)) (decimal n) (string_bytes c.push_pair.new.text) c.push_pair.result
    (two_digits n (omega (arith, c.if-number-lt10.false)) c.requires) c.push_pair.ensures
