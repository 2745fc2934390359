use Rattle.xl_lists.proofs.Tallying.{marked_both}
use Rattle.xl_lists.proofs.marks.Marks.shared.Goals as goal

pub returns : goal.returns
returns c = marked_both c.args.self.bits c.args.other.bits
