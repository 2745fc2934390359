use Rattle.xl_world.proofs.Taking.{one_taken}
use Rattle.xl_world.proofs.act.take_report.Goals as goal

pub returns-then-reports-ne0-clause-report : goal.returns-then-reports-ne0-clause-report
returns-then-reports-ne0-clause-report c =
    one_taken c.args.core.now.untaken.items c.reports.new.room _ c.reports.result _ c.requires.few c.reports.ensures.step.count c.if-reports-ne0.true c.reports.ensures.step.room
