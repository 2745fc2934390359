-- Members as the bits of a number. Source: what the code of this crate keeps.
use Rattle.std.specs.Prelude.{◌≡◌, ℕ, ◌-◌, ◌==◌, ◌&&◌, not, Bool, List, filter}
use Rattle.std.specs.Int.{bit_at}
use Rattle.xl_lists.specs.Lists.{is_on, all_numbers}

-- whether a number is marked: the lowest bit is that of member 1, and 0 is no member
abbrev pub is_marked : ℕ → ℕ → Bool
is_marked bits m = not (m == 0) && bit_at bits (m - 1) == 1

-- the numbers of the list are marked, and no others
abbrev pub AreMarked : ℕ → List ℕ → Type 0
AreMarked bits members = (m : ℕ) → is_marked bits m ≡ is_on members m

-- the members that are marked, by rising number
abbrev pub marked : ℕ → List ℕ
marked bits = filter (is_marked bits) all_numbers
