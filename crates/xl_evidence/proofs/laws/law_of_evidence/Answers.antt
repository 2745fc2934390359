use Rattle.xl_evidence.proofs.Journals.{journals_show}
use Rattle.xl_evidence.proofs.Evidence.{reports_are_shown, forks_are_shown}
use Rattle.xl_evidence.proofs.laws.law_of_evidence.Goals as goal

pub returns-clause-shown : goal.returns-clause-shown
returns-clause-shown c = reports_are_shown

pub returns-clause-forks : goal.returns-clause-forks
returns-clause-forks c = forks_are_shown

pub returns-clause-journals : goal.returns-clause-journals
returns-clause-journals c = journals_show
