use Rattle.xl_lists.proofs.Agreement.{law_of_agreement, kept_by_step}
use Rattle.xl_lists.proofs.laws.law_of_agreement.Goals as goal

pub returns-clause-agree : goal.returns-clause-agree
returns-clause-agree c liars said reports holds standing kept = law_of_agreement kept

pub returns-clause-keeps : goal.returns-clause-keeps
returns-clause-keeps c liars said reports spoken arisen holds holds' standing standing' kept lawful genuine =
    kept_by_step kept lawful genuine
