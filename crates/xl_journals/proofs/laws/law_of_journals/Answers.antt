use Rattle.xl_journals.proofs.Journals.{headline_of_journals}
use Rattle.xl_journals.proofs.laws.law_of_journals.Goals as goal

pub returns : goal.returns
returns c = headline_of_journals
