use Rattle.xl_evidence.proofs.Networks.{forks_count_liars, only_liars_are_named}
use Rattle.xl_evidence.proofs.laws.law_of_names.Goals as goal

pub returns-clause-names : goal.returns-clause-names
returns-clause-names c = only_liars_are_named

pub returns-clause-forks : goal.returns-clause-forks
returns-clause-forks c = forks_count_liars
