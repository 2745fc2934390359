use Rattle.xl_blamed.proofs.Agreeing.{all_given_agree}
use Rattle.xl_blamed.proofs.Given.{all_given_unforged, drains_give}
use Rattle.xl_blamed.proofs.laws.law_of_giving.Goals as goal

pub returns : goal.returns
returns c = record { drains = drains_give; unforged = all_given_unforged; agree = all_given_agree }
