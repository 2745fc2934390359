use Rattle.xl_nunl.proofs.Kept.{nothing_is}
use Rattle.xl_nunl.proofs.Rings.{none_heard}
use Rattle.xl_nunl.proofs.score.Scores.open.Goals as goal

pub returns : goal.returns
returns c = record {
  remembers = none_heard c.in_ok-places.places.items 32768 c.in_ok-places.ensures;
  kept = nothing_is c.in_ok-places.places.items c.in_ok-places.ensures;
}
