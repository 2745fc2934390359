use Rattle.xl_gen.proofs.Coming.{come_all}
use Rattle.xl_gen.proofs.generator.Generator.pass.Goals as goal

pub returns : goal.returns
returns c =
    come_all c.args.self.now c.submit_all.new.self c.happen.new.self c.happen-2.new.self c.moment-at.result c.args.second c.happen-2.result c.moment-at.ensures.value c.in_ok-submit_all.ensures c.in_ok-happen.ensures c.happen-2.ensures
