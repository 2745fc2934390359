use Rattle.std.proofs.Common.{◌∙◌}
use Rattle.xl_lists.proofs.Tallying.{liars_marked}
use Rattle.xl_lists.proofs.quorum.liars_shared.Goals as goal

pub returns : goal.returns
returns c =
    c.count.ensures
    ∙ liars_marked c.marks.result.bits c.marks-2.result.bits c.of-liars.result.bits c.shared.result.bits c.shared-2.result.bits c.args.a.now.members c.args.b.now.members c.args.liars.now
    c.marks.ensures.valid.ordered c.marks.ensures.value c.marks-2.ensures.value c.of-liars.ensures c.shared.ensures c.shared-2.ensures
