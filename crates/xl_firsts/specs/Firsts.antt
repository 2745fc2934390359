-- The first of some numbers by an order. Source: this project's own.
use Rattle.std.specs.Prelude.{◌≡◌, ℕ, ◌==◌, ◌||◌, Bool, true, false, List, [], find, Option, Some, None, IsTrue, if◌then◌else◌}
use Rattle.std.specs.List.{list_all}
use Rattle.xl_lists.specs.Lists.{is_on}

-- whether a number comes before each other
abbrev pub leads : (ℕ → ℕ → Bool) → ℕ → List ℕ → Bool
leads before m some = list_all (λ k. m == k || before m k) some

-- the one that does
abbrev pub first_by : (ℕ → ℕ → Bool) → List ℕ → Option ℕ
first_by before some = find (λ m. leads before m some) some

-- an order which of two different numbers always has one first
pub record IsOrder (before : ℕ → ℕ → Bool) : Type 0 where
  pub total : (a b : ℕ) → before a b ≡ false → (b == a || before b a) ≡ true
  pub onward : (a b c : ℕ) → before a b ≡ true → (b == c || before b c) ≡ true → before a c ≡ true
  pub one_way : (a b : ℕ) → before a b ≡ true → before b a ≡ true → a ≡ b

-- the first of one more
abbrev pub or_one : (ℕ → ℕ → Bool) → Option ℕ → ℕ → ℕ
or_one before None m = m
or_one before (Some first) m = if before m first then m else first

-- what is kept of the numbers that were seen: it is one of them and comes before each other; none if none was seen
abbrev pub IsFirst : (ℕ → ℕ → Bool) → List ℕ → Option ℕ → Type 0
IsFirst before seen None = seen ≡ []
IsFirst before seen (Some first) = IsTrue (is_on seen first) × IsTrue (leads before first seen)

-- The law: it is the first.
abbrev pub FirstLeads : Type 0
FirstLeads = (before : ℕ → ℕ → Bool) (some : List ℕ) (kept : Option ℕ) → IsOrder before → IsFirst before some kept
    → first_by before some ≡ kept
