use Rattle.xl_lists.proofs.Marking.{marked_with}
use Rattle.xl_lists.proofs.marks.Marks.with.Goals as goal

pub returns : goal.returns
returns c = rw (← c.get.ensures.value) (marked_with c.args.self.bits c.get.result c.get.ensures.first c.get.ensures.last)
