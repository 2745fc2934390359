use Rattle.xl_core.proofs.Accounted.{all_handed, none_lost}
use Rattle.xl_core.proofs.laws.law_of_handed_reports.Goals as goal

pub returns-clause-handed : goal.returns-clause-handed
returns-clause-handed c = all_handed

pub returns-clause-none : goal.returns-clause-none
returns-clause-none c = none_lost
