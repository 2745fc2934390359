-- Where the first byte stands that passes a test, or the end.
use Rattle.std.proofs.Common.{◌≤◌, ℕ, Bool, List, length, not}
use Rattle.std.specs.List.{position_or_len}
use Rattle.std.proofs.lemmas.List.Sums.{prefix_len-le-length}

pub position_or_len-within : (p : ℕ → Bool) (bs : List ℕ) → position_or_len p bs ≤ length bs
position_or_len-within p bs = prefix_len-le-length (λ x. not (p x)) bs
