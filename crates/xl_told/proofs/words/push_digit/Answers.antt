-- a digit is its own character
use Rattle.std.proofs.Common.{List, ℕ, ◌++◌, ap, sym, ◌∙◌, arith}
use Rattle.std.specs.String.{string_bytes}
use Rattle.std.proofs.lemmas.Fmt.{decimal_digit}
use Rattle.xl_told.proofs.words.push_digit.Goals as goal

pub returns : goal.returns
returns c =
    c.in_ok-push.ensures.bytes
    ∙ ap (λ (xs : List ℕ). string_bytes c.args.text.now ++ xs) (c.in_ok-push.ensures.ascii (omega (arith, c.requires)) ∙ sym (decimal_digit c.args.digit c.requires))
