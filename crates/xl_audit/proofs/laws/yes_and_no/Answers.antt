use Rattle.xl_audit.proofs.Judged.{yes_is_right, no_names_the_first}
use Rattle.xl_audit.proofs.laws.yes_and_no.Goals as goal

pub returns : goal.returns
returns c = record { yes = yes_is_right; no = no_names_the_first }
