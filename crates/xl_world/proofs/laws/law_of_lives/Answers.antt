use Rattle.xl_world.proofs.Lives.{headline_of_lives}
use Rattle.xl_world.proofs.laws.law_of_lives.Goals as goal

pub returns : goal.returns
returns c = headline_of_lives
