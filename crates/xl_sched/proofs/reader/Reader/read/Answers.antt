use Rattle.std.proofs.Common.{rules}
use Rattle.xl_sched.proofs.reader.Reader.read.Goals as goal

pub learn-requires-clause-fit : goal.learn-requires-clause-fit
learn-requires-clause-fit c = (c.args.sent, search rules)
