use Rattle.xl_world.proofs.Emptied.{drains_leave_nothing, last_gives_nothing}
use Rattle.xl_world.proofs.laws.law_of_drains.Goals as goal

pub returns-clause-empty : goal.returns-clause-empty
returns-clause-empty c = drains_leave_nothing

pub returns-clause-last : goal.returns-clause-last
returns-clause-last c = last_gives_nothing
