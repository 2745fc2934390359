use Rattle.xl_nunl.proofs.Kept.{rings}
use Rattle.xl_nunl.proofs.laws.law_of_rings.Goals as goal

pub returns : goal.returns
returns c = rings
