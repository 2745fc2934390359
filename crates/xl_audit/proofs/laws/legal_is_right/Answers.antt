use Rattle.xl_audit.proofs.Legal.{legal_is_right}
use Rattle.xl_audit.proofs.laws.legal_is_right.Goals as goal

pub returns : goal.returns
returns c = legal_is_right
