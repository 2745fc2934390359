use Rattle.std.proofs.Common.{◌≡◌, ◌≢◌, ◌∙◌, ℕ, List, arith, ap, subst, sym}
use Rattle.std.proofs.lemmas.Bool.Decides.{nat_tests}
use Rattle.xl_tags.specs.Macs.{mac}
use Rattle.xl_tags.specs.Rings.{schedule_ring}
use Rattle.xl_tags.specs.Sealing.{before_tag}
use Rattle.xl_tags.proofs.SealingLaws.{sealed_as}
use Rattle.xl_wire.specs.Raws.{RawFrame, SpellsRaw}
use Rattle.xl_world.proofs.Lying.{tag_by_pair, keyless, unsealed}
use Rattle.xl_world.proofs.lie.seal.Goals as goal

pub returns-then-ne : goal.returns-then-ne
returns-then-ne c = λ f is_to spells.
    let other : c.args.to ≢ c.args.from = grind (arith, nat_tests) in
    let old : List ℕ = c.args.frame.now in
    sealed_as (schedule_ring c.args.from) f f c.hmac-tag.result old c.put_tag.new.frame spells spells
    (tag_by_pair c.args.from c.args.to f (before_tag old) c.hmac-tag.result (omega arith) (omega arith) other is_to (ap before_tag spells.spelling)
    (c.hmac-tag.ensures ∙ ap (λ (key : List ℕ). mac key (before_tag old)) c.pair_key.ensures.value))
    c.put_tag.ensures.long c.put_tag.ensures.put

pub returns-else-ne : goal.returns-else-ne
returns-else-ne c = λ f is_to spells.
    let same : c.args.to ≡ c.args.from = grind (arith, nat_tests) in
    subst (λ (g : RawFrame). SpellsRaw g c.args.frame.now) (sym (unsealed (schedule_ring c.args.from) f (keyless c.args.from c.args.to f (omega arith) (omega arith) same is_to))) spells
