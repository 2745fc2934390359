use Rattle.xl_world.proofs.Ending.{all_agree, kept_left, kept_run}
use Rattle.xl_world.proofs.world.World.reports.Goals as goal

pub returns-clause-run : goal.returns-clause-run
returns-clause-run c = kept_run c.self.inside.spent c.self.inside.network c.args.self.now c.self.view_is c.self.invariant.kept

pub returns-clause-left : goal.returns-clause-left
returns-clause-left c = kept_left c.self.inside.spent c.self.inside.network c.args.self.now c.self.view_is c.self.invariant.kept

pub returns-clause-agree : goal.returns-clause-agree
returns-clause-agree c =
    all_agree c.args.self.now
    (kept_run c.self.inside.spent c.self.inside.network c.args.self.now c.self.view_is c.self.invariant.kept)
    (kept_left c.self.inside.spent c.self.inside.network c.args.self.now c.self.view_is c.self.invariant.kept)
