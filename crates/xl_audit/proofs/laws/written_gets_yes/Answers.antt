use Rattle.xl_audit.proofs.Rereading.{written_gets_yes}
use Rattle.xl_audit.proofs.laws.written_gets_yes.Goals as goal

pub returns : goal.returns
returns c = written_gets_yes
