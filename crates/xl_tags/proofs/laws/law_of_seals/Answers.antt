use Rattle.xl_tags.proofs.OpeningLaws.{law_of_seals, opens_alone}
use Rattle.xl_tags.proofs.laws.law_of_seals.Goals as goal

pub returns-clause-opens : goal.returns-clause-opens
returns-clause-opens c = law_of_seals

pub returns-clause-alone : goal.returns-clause-alone
returns-clause-alone c = opens_alone
