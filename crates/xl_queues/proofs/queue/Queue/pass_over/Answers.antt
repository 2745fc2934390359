use Rattle.std.proofs.Common.{rules}
use Rattle.xl_queues.proofs.Accounting.{pass_over_accounts}
use Rattle.xl_queues.proofs.queue.Queue.pass_over.Goals as goal

pub returns-clause-accounted : goal.returns-clause-accounted
returns-clause-accounted g c = pass_over_accounts c.args.self.now _ (search rules)
