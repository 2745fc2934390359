use Rattle.xl_world.proofs.Agreeing.{answer_tells}
use Rattle.xl_world.proofs.Lists.{agree_at, core_headline}
use Rattle.xl_world.proofs.world.World.agreement.Goals as goal

pub returns-clause-exact : goal.returns-clause-exact
returns-clause-exact c = answer_tells c.args.i c.args.j c.args.self.now.reports c.reports.result.now c.all_agree.result c.all_agree.ensures c.reports.ensures.reports

pub returns-clause-enough : goal.returns-clause-enough
returns-clause-enough c enough none =
    (answer_tells c.args.i c.args.j c.args.self.now.reports c.reports.result.now c.all_agree.result c.all_agree.ensures c.reports.ensures.reports).1
    (agree_at c.args.self.now.liars c.args.self.now.reports c.args.i c.args.j (c.reports.ensures.agree none) enough)

pub returns-clause-headline : goal.returns-clause-headline
returns-clause-headline c = core_headline
