use Rattle.xl_nunl.proofs.Enough.{enough}
use Rattle.xl_nunl.proofs.laws.law_of_negative_lists.Goals as goal

pub returns : goal.returns
returns c = enough
