-- The time that occurs most often. Source: what the code of this crate relies on. No public clause cites this file.
use Rattle.std.specs.Prelude.{◌≡◌, ℕ, ◌≤◌, ◌<◌, ◌==◌, ◌&&◌, ◌||◌, nat_lt, Bool, List, All, IsTrue}
use Rattle.std.specs.List.{list_any}
use Rattle.xl_closetime.specs.Choices.{occurrences}
use Rattle.xl_closetime.specs.declared.choice.Frequent.{Frequent}

-- whether a time occurs more often than another, or as often and later
abbrev pub beats : Frequent → Frequent → Bool
beats a b = nat_lt b.count a.count || a.count == b.count && nat_lt b.time a.time

-- no time that was seen occurs more often, nor, if it is later, as often
pub record IsMostFrequent (times seen : List ℕ) (most : Frequent) : Type 0 where
  pub found : 1 ≤ most.count → IsTrue (list_any (λ t. t == most.time) seen)
  pub counted : 1 ≤ most.count → most.count ≡ occurrences times most.time
  pub greatest : All (λ t. occurrences times t ≤ most.count) seen
  pub last : All (λ t. most.time < t → occurrences times t < most.count) seen
