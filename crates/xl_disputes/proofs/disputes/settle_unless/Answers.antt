use Rattle.xl_disputes.proofs.Keeping.{weighed_already}
use Rattle.xl_disputes.proofs.disputes.settle_unless.Goals as goal

pub returns-else-not-settled : goal.returns-else-not-settled
returns-else-not-settled c = weighed_already c.args.shares.now c.args.positions.now (c.requires.weights c.if-not-settled.false)
