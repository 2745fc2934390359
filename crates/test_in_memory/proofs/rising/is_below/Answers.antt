use Rattle.std.proofs.Common.{◌∙◌}
use Rattle.xl_disputes.proofs.Ordered.{before_is}
use Rattle.test_in_memory.proofs.rising.is_below.Goals as goal

pub returns : goal.returns
returns c = c.lt.ensures ∙ before_is c.args.a.now.0 c.args.b.now.0
