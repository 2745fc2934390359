use Rattle.xl_wire.specs.Raws.{raw_frame}
use Rattle.xl_tags.proofs.OpeningLaws.{tag_is, sealed_where, sealed_exactly}
use Rattle.xl_tags.proofs.opening.is_sealed.Goals as goal

pub returns-then-knows-clause-value : goal.returns-then-knows-clause-value
returns-then-knows-clause-value c =
    let f = raw_frame c.args.raw.now in
    sealed_where c.args.keys.now f _ c.is_same_tag.result
    (tag_is c.args.keys.now c.args.raw.now.from f c.args.bytes.now _ c.tag.result c.requires c.before_tag.ensures c.tag.ensures) c.is_same_tag.ensures

pub returns-then-knows-clause-exact : goal.returns-then-knows-clause-exact
returns-then-knows-clause-exact c = sealed_exactly c.args.keys.now (raw_frame c.args.raw.now) c.is_same_tag.result (returns-then-knows-clause-value c)
