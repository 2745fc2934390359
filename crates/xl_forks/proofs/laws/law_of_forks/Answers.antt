use Rattle.xl_forks.proofs.Forking.{both_are_shown, each_pair, forks_are}
use Rattle.xl_forks.proofs.laws.law_of_forks.Goals as goal

pub returns-clause-two : goal.returns-clause-two
returns-clause-two c = forks_are

pub returns-clause-each : goal.returns-clause-each
returns-clause-each c = each_pair

pub returns-clause-shown : goal.returns-clause-shown
returns-clause-shown c = both_are_shown
