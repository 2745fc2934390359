-- Our next set. Source: rippled's DisputedTx; 256 is this profile's.
use Rattle.std.specs.Prelude.{ℕ, Bool, List, filter, flat_map}
use Rattle.xl_base.specs.declared.ids.TxId.{TxId}
use Rattle.xl_disputes.specs.Disputes.{Known, counted_sets, votes}
use Rattle.xl_disputes.specs.Rising.{lowest}
use Rattle.xl_disputes.specs.Votes.{next_vote, threshold}

-- whether our next vote on a transaction is yes, if a yes vote must weigh more than needed
abbrev pub passes : Known → ℕ → Bool → TxId → Bool
passes k needed proposing tx = next_vote needed proposing (votes k tx)

-- of the counted sets' transactions on which it is yes the 256 lowest, all votes being decided on the same counts
abbrev pub winners : Known → ℕ → Bool → List TxId
winners k needed proposing = lowest 256 (filter (passes k needed proposing) (flat_map (λ set. set) (counted_sets k)))

-- our next set, once this percent of the previous round's time has passed
abbrev pub next_set : Known → ℕ → Bool → List TxId
next_set k percent proposing = winners k (threshold percent) proposing
