use Rattle.std.proofs.Common.{rules}
use Rattle.xl_queues.proofs.AllAccounting.{all_pop}
use Rattle.xl_queues.proofs.broadcast.Broadcast.pop.Goals as goal

pub returns-clause-accounted : goal.returns-clause-accounted
returns-clause-accounted g c = all_pop c.args.self.now _ c.args.reader _ (search rules) (search rules)
