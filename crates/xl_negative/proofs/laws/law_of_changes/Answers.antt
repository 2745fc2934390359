use Rattle.xl_negative.proofs.Lawful.{changes_lawful}
use Rattle.xl_negative.proofs.laws.law_of_changes.Goals as goal

pub returns : goal.returns
returns c = changes_lawful
