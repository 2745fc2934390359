-- What is told over what is kept is told over the list.
use Rattle.std.proofs.Common.{◌≡◌, ℕ, List, ◌∙◌, ap}
use Rattle.xl_lines.specs.Told.{told_of}
use Rattle.xl_lines.specs.Soon.{told_soon}
use Rattle.xl_running.specs.Running.{limits}
use Rattle.xl_negative.specs.Ringing.{Places, ring_keeping}
use Rattle.xl_negative.specs.Writing.{Writing, at_first, negative_of, negative_soon, rules}
use Rattle.xl_negative.proofs.Joining.{told_same, soon_same}

module _ (first : Writing Places) (is : first ≡ at_first ring_keeping) where
  pub same_told : (bytes : List ℕ) → told_of limits (rules ring_keeping) first bytes ≡ negative_of bytes
  same_told bytes = ap (λ (p : Writing Places). told_of limits (rules ring_keeping) p bytes) is ∙ told_same bytes

  pub same_soon : (bytes : List ℕ) → told_soon limits (rules ring_keeping) first bytes ≡ negative_soon bytes
  same_soon bytes = ap (λ (p : Writing Places). told_soon limits (rules ring_keeping) p bytes) is ∙ soon_same bytes
