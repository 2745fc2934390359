use Rattle.xl_tell.proofs.Whole.{tells_report}
use Rattle.xl_tell.proofs.laws.law_of_telling.Goals as goal

pub returns : goal.returns
returns c = tells_report
