use Rattle.std.proofs.Common.{◌∙◌, ap, min, max, ℕ}
use Rattle.xl_tags.proofs.PairKeyLaws.{pair_hashed, pair_key_of-comm}
use Rattle.xl_tags.proofs.pair_keys.pair_key.Goals as goal

pub returns-clause-value : goal.returns-clause-value
returns-clause-value c =
    c.finalize.ensures _ (c.chain_update-2.ensures _ (c.chain_update.ensures _ c.new_with_prefix.ensures))
    ∙ pair_hashed c.args.a c.args.b c.min-lesser.result c.max-greater.result c.to_be_bytes.result c.to_be_bytes-2.result
    (c.min-lesser.ensures ∙ ap (λ (n : ℕ). min n c.get-2.result) c.get.ensures.value ∙ ap (min c.args.a) c.get-2.ensures.value)
    (c.max-greater.ensures ∙ ap (λ (n : ℕ). max n c.get-4.result) c.get-3.ensures.value ∙ ap (max c.args.a) c.get-4.ensures.value)
    c.to_be_bytes.ensures c.to_be_bytes-2.ensures

pub returns-clause-alike : goal.returns-clause-alike
returns-clause-alike c = returns-clause-value c ∙ pair_key_of-comm c.args.a c.args.b
