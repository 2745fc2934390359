use Rattle.xl_world.proofs.Runs.{headline_of_networks}
use Rattle.xl_world.proofs.laws.law_of_networks.Goals as goal

pub returns : goal.returns
returns c = headline_of_networks
