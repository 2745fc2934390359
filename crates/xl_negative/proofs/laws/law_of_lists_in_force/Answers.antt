use Rattle.xl_negative.proofs.Rerunning.{lists_in_force}
use Rattle.xl_negative.proofs.laws.law_of_lists_in_force.Goals as goal

pub returns : goal.returns
returns c = lists_in_force
