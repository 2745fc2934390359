-- The order of fees by their votes.
use Rattle.std.proofs.Common.{ℕ, List}
use Rattle.std.specs.Prelude.{◌==◌, count_by}
use Rattle.xl_firsts.specs.Firsts.{IsOrder}
use Rattle.xl_firsts.proofs.Orders.{most_first}
use Rattle.xl_flags.specs.Votes.{wins}

pub wins_orders : (votes : List ℕ) → IsOrder (wins votes)
wins_orders votes = most_first (λ v. count_by (λ u. u == v) votes)
