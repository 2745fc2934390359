use Rattle.xl_negative.proofs.Rerunning.{reports_agree}
use Rattle.xl_negative.proofs.laws.law_of_agreeing_reports.Goals as goal

pub returns : goal.returns
returns c = reports_agree
