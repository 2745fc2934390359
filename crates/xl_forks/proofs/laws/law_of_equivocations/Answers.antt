use Rattle.xl_forks.proofs.Lawful.{are_two, each_is_among, two_are}
use Rattle.xl_forks.proofs.laws.law_of_equivocations.Goals as goal

pub returns-clause-two : goal.returns-clause-two
returns-clause-two c = are_two

pub returns-clause-each : goal.returns-clause-each
returns-clause-each c = two_are

pub returns-clause-among : goal.returns-clause-among
returns-clause-among c = each_is_among
