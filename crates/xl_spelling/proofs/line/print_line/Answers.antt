use Rattle.xl_spelling.proofs.Respelling.{spelled-again}
use Rattle.xl_spelling.proofs.line.print_line.Goals as goal

pub returns-clause-same : goal.returns-clause-same
returns-clause-same c = λ reading sent bytes said. (spelled-again reading sent bytes c.args.line.now said c.in_ok-push_line.ensures.stored).same

pub returns-clause-plain : goal.returns-clause-plain
returns-clause-plain c = λ reading sent bytes said. (spelled-again reading sent bytes c.args.line.now said c.in_ok-push_line.ensures.stored).plain
