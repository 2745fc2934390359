-- What stands on a board. Source: the POSIX call rename: a file of that name is the former one or the new one, whole, at
-- every moment.
use Rattle.std.specs.Prelude.{◌≡◌, ℕ, ◌⊎◌, Bool, IsTrue, List, [], Option, Some, None}

-- the text that was handed over stands; if that failed, it does or the former one does
abbrev pub Replaces : List ℕ → Bool → Option (List ℕ) → Option (List ℕ) → Type 0
Replaces text ok old new = (IsTrue ok → new ≡ Some text) × ((new ≡ old) ⊎ (new ≡ Some text))

-- and if it was known what stood before, it is known what stands then
abbrev pub Shows : List ℕ → Bool → Option (Option (List ℕ)) → Option (Option (List ℕ)) → Type 0
Shows text ok None new = new ≡ None
Shows text ok (Some old) None = ⊥
Shows text ok (Some old) (Some new) = Replaces text ok old new

-- a new file holds nothing, if it is known what it holds
abbrev pub IsNew : Option (List ℕ) → Type 0
IsNew None = Unit {0}
IsNew (Some bytes) = bytes ≡ []
