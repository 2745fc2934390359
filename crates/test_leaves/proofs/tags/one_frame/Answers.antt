use Rattle.std.proofs.Common.{ap, subst, arith}
use Rattle.std.proofs.lemmas.List.{take_all}
use Rattle.xl_wire.specs.Heads.{parts}
use Rattle.xl_wire.specs.Kinds.{span}
use Rattle.xl_wire.specs.Raws.{SpellsRaw, raw_frame}
use Rattle.test_leaves.proofs.tags.one_frame.Goals as goal

pub returns-in-Whole : goal.returns-in-Whole
returns-in-Whole c =
    let f = raw_frame c.in-Whole.raw in
    subst (SpellsRaw f) (take_all (span f.body) c.args.bytes.now (omega (arith, c.in-Whole.raw.whole))) ((c.split.ensures.whole f).0 (ap parts c.in-Whole.is))
