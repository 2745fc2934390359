-- What is told over what is kept is told over the list.
use Rattle.std.proofs.Common.{◌≡◌, ℕ, List, ◌∙◌, ap}
use Rattle.xl_lines.specs.Told.{told_of}
use Rattle.xl_lines.specs.Soon.{told_soon}
use Rattle.xl_running.specs.Running.{limits}
use Rattle.xl_voting.specs.Tallying.{Tallying, nothing_tallied, tally_keeping}
use Rattle.xl_voting.specs.Voting.{Voting, flags_of, flags_soon, nothing_read, rules}
use Rattle.xl_voting.proofs.Joining.{told_same, soon_same}

module _ (first : Voting Tallying) (is : first ≡ nothing_read nothing_tallied) where
  pub same_told : (bytes : List ℕ) → told_of limits (rules tally_keeping) first bytes ≡ flags_of bytes
  same_told bytes = ap (λ (p : Voting Tallying). told_of limits (rules tally_keeping) p bytes) is ∙ told_same bytes

  pub same_soon : (bytes : List ℕ) → told_soon limits (rules tally_keeping) first bytes ≡ flags_soon bytes
  same_soon bytes = ap (λ (p : Voting Tallying). told_soon limits (rules tally_keeping) p bytes) is ∙ soon_same bytes
