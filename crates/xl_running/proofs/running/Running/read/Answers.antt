use Rattle.xl_running.proofs.Fitting.{read_in_range}
use Rattle.xl_running.proofs.running.Running.read.Goals as goal

pub returns-clause-range : goal.returns-clause-range
returns-clause-range c = read_in_range c.self.inside.reader c.sent-sent.result c.read_line.result c.read_line.ensures.fit
