use Rattle.xl_evidence.proofs.Innocence.{lives_say_once, none_is_named}
use Rattle.xl_evidence.proofs.laws.law_of_innocence.Goals as goal

pub returns-clause-once : goal.returns-clause-once
returns-clause-once c = lives_say_once

pub returns-clause-none : goal.returns-clause-none
returns-clause-none c = none_is_named
