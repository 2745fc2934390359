use Rattle.std.proofs.Common.{rules}
use Rattle.xl_queues.proofs.Accounting.{pop_accounts}
use Rattle.xl_queues.proofs.queue.Queue.pop.Goals as goal

pub returns-clause-accounted : goal.returns-clause-accounted
returns-clause-accounted g c = pop_accounts c.args.self.now _ _ (search rules) (search rules)
