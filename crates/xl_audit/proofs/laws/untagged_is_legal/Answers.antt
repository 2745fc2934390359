use Rattle.xl_audit.proofs.Legal.{untagged_is_legal}
use Rattle.xl_audit.proofs.laws.untagged_is_legal.Goals as goal

pub returns : goal.returns
returns c = untagged_is_legal
