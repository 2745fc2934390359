use Rattle.xl_flags.proofs.Moments.{standing_more, news_is}
use Rattle.xl_flags.proofs.laws.law_of_moments.Goals as goal

pub returns : goal.returns
returns c = record { stands = standing_more; said = news_is }
