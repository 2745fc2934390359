use Rattle.std.proofs.Common.{arith}
use Rattle.xl_lists.proofs.Tallying.{ones_marked}
use Rattle.xl_lists.proofs.marks.Marks.count.Goals as goal

pub returns : goal.returns
returns c = ones_marked c.args.self.bits (omega (arith, c.well_formed))
