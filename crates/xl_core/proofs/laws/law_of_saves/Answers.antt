use Rattle.xl_core.proofs.Covering.{law_of_saves}
use Rattle.xl_core.proofs.laws.law_of_saves.Goals as goal

pub returns : goal.returns
returns c = law_of_saves
