use Rattle.xl_ledger.proofs.Walking.{counted}
use Rattle.xl_ledger.proofs.walk.Walk.jump.Goals as goal

pub returns-clause-goes_on : goal.returns-clause-goes_on
returns-clause-goes_on c = counted c.args.self.now c.self.inside.registry.now c.self.inside.steps c.tick.new.self c.self.view_is c.tick.ensures.later
