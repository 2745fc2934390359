-- the world isn't spent, since it has that node
use Rattle.xl_tell.proofs.Heard.{brief_so, unspent}
use Rattle.xl_tell.proofs.brief.brief_node.Goals as goal

pub returns-then-is_brief : goal.returns-then-is_brief
returns-then-is_brief c =
    brief_so c.args.world.now c.args.number c.args.at c.args.member _ _ (c.reports-reports.ensures.run (unspent c.args.world.now.spent _ c.in-Some.ensures.spent)) c.in-Some.ensures.core
    c.node-node.ensures.value c.is_brief.ensures.valid (c.is_brief.ensures.listed c.if-is_brief.true) (c.is_brief.ensures.within c.if-is_brief.true)
