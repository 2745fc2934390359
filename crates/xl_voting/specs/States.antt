-- The state of the machine, as the definitions see it. Source: what the code of this crate keeps.
use Rattle.xl_voting.specs.declared.voter.Voter.{Voter}
use Rattle.xl_voting.specs.Tallying.{Tallying}
use Rattle.xl_voting.specs.Voting.{Voting}

abbrev pub state_of : Voter → Voting Tallying
state_of v = record { running = v.running; votes = v.tally }
