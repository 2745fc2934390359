use Rattle.xl_rounds.proofs.Agreeing.{ready_is_agreed}
use Rattle.xl_rounds.proofs.Newer.{positions_are_newer}
use Rattle.xl_rounds.proofs.Waiting.{none_waits_in_vain}
use Rattle.xl_rounds.proofs.laws.rounds.Goals as goal

pub returns-clause-agreed : goal.returns-clause-agreed
returns-clause-agreed c = ready_is_agreed

pub returns-clause-newer : goal.returns-clause-newer
returns-clause-newer c = positions_are_newer

pub returns-clause-waiting : goal.returns-clause-waiting
returns-clause-waiting c = none_waits_in_vain
