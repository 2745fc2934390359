use Rattle.xl_running.proofs.Fitting.{put_in_range}
use Rattle.xl_running.proofs.running.Running.read_into.Goals as goal

pub returns-clause-range : goal.returns-clause-range
returns-clause-range c = put_in_range c.self.inside.reader c.sent-sent.result c.read_into.result c.read_into.new.said c.read_into.ensures.fit
