use Rattle.xl_audit.proofs.Legal.{right_is_legal}
use Rattle.xl_audit.proofs.laws.right_is_legal.Goals as goal

pub returns : goal.returns
returns c = right_is_legal
