use Rattle.std.proofs.Common.{◌++◌, sym, ◌∙◌, ap}
use Rattle.std.specs.String.{string_bytes}
use Rattle.xl_sched.proofs.TokenLemmas.{shown_token-some}
use Rattle.xl_sched.proofs.printed.printed_token.Goals as goal

pub returns : goal.returns
returns c =
    c.loop-b.invariant
    ∙ ap (λ shown. string_bytes c.args.text.now ++ shown) (shown_token-some c.args.token.now c.min.result c.loop-b.b-index (sym c.is_empty.ensures ∙ c.if-is_empty.false) c.min.ensures c.loop-b-test.false)
