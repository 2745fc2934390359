-- How a list is stored. Source: what the code of this crate keeps.
use Rattle.std.specs.Prelude.{◌≡◌, ℕ, List, length, take}
use Rattle.xl_lists.specs.Lists.{TrustedList, IsValid}
use Rattle.xl_lists.specs.Marks.{AreMarked}

-- the members stand in the first places
abbrev pub stored : List ℕ → ℕ → ℕ → TrustedList
stored places len quorum = record { members = take len places; quorum = quorum }

-- what the fields of a list keep: it is valid, and its members are those that are marked
pub record IsStored (places : List ℕ) (len quorum bits : ℕ) : Type 0 where
  pub count : length (take len places) ≡ len
  pub valid : IsValid (stored places len quorum)
  pub marked : AreMarked bits (take len places)
