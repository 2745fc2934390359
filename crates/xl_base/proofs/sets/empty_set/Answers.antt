use Rattle.std.proofs.Common.{sym}
use Rattle.xl_base.proofs.EmptySet.{empty_set}
use Rattle.xl_base.proofs.sets.empty_set.Goals as goal

pub returns : goal.returns
returns c = sym empty_set
