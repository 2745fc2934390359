use Rattle.std.proofs.Common.{arith}
use Rattle.std.proofs.lemmas.Grind.{common_steps}
use Rattle.xl_queues.proofs.AllAccounting.{all_pass_over}
use Rattle.xl_queues.proofs.broadcast.Broadcast.pass_over.Goals as goal

pub returns-then-waiting-gt0-clause-accounted : goal.returns-then-waiting-gt0-clause-accounted
returns-then-waiting-gt0-clause-accounted g c = all_pass_over c.args.self.now _ c.args.reader (grind (arith, common_steps))

pub returns-else-waiting-gt0-clause-accounted : goal.returns-else-waiting-gt0-clause-accounted
returns-else-waiting-gt0-clause-accounted g c = all_pass_over c.args.self.now _ c.args.reader (grind (arith, common_steps))
