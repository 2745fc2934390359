use Rattle.xl_gen.proofs.Coming.{come_submit}
use Rattle.xl_gen.proofs.generator.Generator.submit.Goals as goal

pub returns : goal.returns
returns c = come_submit c.args.self.now c.happen.new.self c.args.at c.args.node c.args.number c.member-node.result c.tx-tx.result c.happen.result c.member-node.ensures c.tx-tx.ensures c.happen.ensures
