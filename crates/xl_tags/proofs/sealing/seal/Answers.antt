use Rattle.std.proofs.Common.{subst, sym, ◌∙◌, ◌≡◌, ℕ, Some}
use Rattle.xl_tags.specs.Sealing.{tag_by}
use Rattle.xl_tags.proofs.OpeningLaws.{tag_is}
use Rattle.xl_tags.proofs.SealingLaws.{sealed_as, before_tag-sealed}
use Rattle.xl_tags.proofs.sealing.seal.Goals as goal

pub returns-clause-sealed : goal.returns-clause-sealed
returns-clause-sealed c = λ f spells.
    let ring = c.args.keys.now in
    let g = c.requires.frame in
    let tag = tag_is ring c.get.result g c.args.frame.now _ c.tag-tag.result c.requires.spells c.before_tag.ensures c.tag-tag.ensures in
    let own = subst (λ (m : ℕ). tag_by ring m g ≡ Some c.tag-tag.result) (c.get.ensures.value ∙ sym c.requires.theirs) tag in
    sealed_as ring f g c.tag-tag.result c.args.frame.now c.put_tag.new.frame spells c.requires.spells own c.put_tag.ensures.long c.put_tag.ensures.put

pub returns-clause-kept : goal.returns-clause-kept
returns-clause-kept c = before_tag-sealed c.tag-tag.result c.args.frame.now c.put_tag.new.frame c.put_tag.ensures.long c.put_tag.ensures.put
