use Rattle.xl_negative.proofs.InForce.{lists_enough}
use Rattle.xl_negative.proofs.laws.law_of_lists.Goals as goal

pub returns : goal.returns
returns c = lists_enough
