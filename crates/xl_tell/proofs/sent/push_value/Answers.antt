-- the words are those of the body that is said
use Rattle.std.proofs.Common.{◌++◌, List, ℕ, ap, sym, ◌∙◌}
use Rattle.std.specs.String.{string_bytes}
use Rattle.xl_tell.proofs.sent.push_value.Goals as goal

pub returns-clause-told : goal.returns-clause-told
returns-clause-told c =
    c.in_ok-push.ensures.told ∙ ap (λ (words : List ℕ). string_bytes c.args.text.now ++ words) (sym (c.words_between.ensures c.args.reader.now.names))
