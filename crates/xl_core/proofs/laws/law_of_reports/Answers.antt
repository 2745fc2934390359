use Rattle.xl_core.proofs.Reporting.{reports_arise, reports_rise}
use Rattle.xl_core.proofs.laws.law_of_reports.Goals as goal

pub returns-clause-arise : goal.returns-clause-arise
returns-clause-arise c = reports_arise

pub returns-clause-rise : goal.returns-clause-rise
returns-clause-rise c = reports_rise
