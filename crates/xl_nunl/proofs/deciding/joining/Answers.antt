use Rattle.std.proofs.Common.{arith}
use Rattle.xl_nunl.proofs.deciding.joining.Goals as goal

pub count_without-out-requires : goal.count_without-out-requires
count_without-out-requires c = omega (arith, c.requires.quarter, c.members.ensures.valid.at_most, c.members.ensures.value)
