use Rattle.xl_firsts.proofs.Firsts.{first_is}
use Rattle.xl_firsts.proofs.laws.law_of_firsts.Goals as goal

pub returns : goal.returns
returns c before some kept order first = first_is before order some kept first
