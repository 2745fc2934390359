use Rattle.xl_blamed.proofs.Showing.{shows_evidence}
use Rattle.xl_blamed.proofs.laws.law_of_showing.Goals as goal

pub returns : goal.returns
returns c = record { evidence = shows_evidence }
