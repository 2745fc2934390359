use Rattle.std.proofs.Common.{arith}
use Rattle.std.proofs.lemmas.Grind.{common_steps}
use Rattle.xl_queues.proofs.Accounting.{push_accounts}
use Rattle.xl_queues.proofs.queue.Queue.push.Goals as goal

pub returns-clause-accounted : goal.returns-clause-accounted
returns-clause-accounted g c = push_accounts g.row.N c.args.self.now _ c.args.item (grind (arith, common_steps))
