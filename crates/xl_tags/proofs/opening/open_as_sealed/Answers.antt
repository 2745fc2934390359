use Rattle.std.proofs.Common.{sym, ◌∙◌}
use Rattle.xl_wire.specs.Raws.{raw_frame}
use Rattle.xl_tags.proofs.OpeningLaws.{opens_as_sealed}
use Rattle.xl_tags.proofs.opening.open_as_sealed.Goals as goal

pub returns-in-Some-clause-refusal : goal.returns-in-Some-clause-refusal
returns-in-Some-clause-refusal c =
    sym (opens_as_sealed c.args.keys.now c.args.list.now.members (raw_frame c.args.raw.now) c.requires.spelled c.requires.keyed (c.if-raw-get.false ∙ c.get.ensures.value ∙ c.me.ensures.value) c.in-Some.ensures.listed)
