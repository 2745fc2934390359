use Rattle.xl_publish.proofs.RunLaws.{alike_from}
use Rattle.xl_publish.proofs.publishers.Publishers.list_at.Goals as goal

pub returns-clause-alike : goal.returns-clause-alike
returns-clause-alike c = alike_from c.args.self.now c.args.now c.args.threshold c.in_force.result c.in_force.ensures
