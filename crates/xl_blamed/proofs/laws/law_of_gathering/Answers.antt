use Rattle.xl_blamed.proofs.Gathering.{forks_show_enough, names_are_shown}
use Rattle.xl_blamed.proofs.laws.law_of_gathering.Goals as goal

pub returns : goal.returns
returns c = record { forks = forks_show_enough; names = names_are_shown }
