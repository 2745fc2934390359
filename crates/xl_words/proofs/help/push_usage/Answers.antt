use Rattle.std.proofs.Common.{ℕ, List, ◌++◌, ap, ◌∙◌, codes, append_assoc}
use Rattle.std.specs.String.{string_bytes}
use Rattle.xl_words.specs.Help.{usage_text}
use Rattle.xl_words.proofs.help.push_usage.Goals as goal

pub returns : goal.returns
unfolding usage_text
returns c =
    let old = string_bytes c.args.text.now in
    let a : List ℕ = codes "xl is the agreement layer of the XRP Ledger.\n\n" in
    let b : List ℕ = codes "usage: xl COMMAND\n\n" in
    c.in_ok-push_str-2.ensures.bytes ∙ ap (λ (xs : List ℕ). xs ++ b) c.in_ok-push_str.ensures.bytes ∙ append_assoc old a b
