-- A file that is replaced as a whole. Source: the POSIX calls rename and fsync: a file of that name is the former one
-- or the new one, whole, at every moment.
use Rattle.std.specs.Prelude.{◌≡◌, ℕ, ◌⊎◌, Bool, IsTrue, List, take, Option, Some, None, Result, Ok, Err}
use Rattle.std.specs.declared.io.Error.{Error}

-- the text that a stop at this moment leaves in place, and the one that it leaves beside it, none if there is no
-- file
pub record Places : Type 0 where
  pub stands : Option (List ℕ)
  pub beside : Option (List ℕ)

-- what is told before a call is told after it, and stands so to it
abbrev pub Told : (Places → Places → Type 0) → Option Places → Option Places → Type 0
Told Stands None new = new ≡ None
Told Stands (Some old) None = ⊥
Told Stands (Some old) (Some new) = Stands old new

-- the text that a read gave, at the front of the room
abbrev pub Gives : Result (Option ℕ) Error → List ℕ → Option (List ℕ) → Type 0
Gives (Ok None) room stands = stands ≡ None
Gives (Ok (Some n)) room stands = stands ≡ Some (take n room)
Gives (Err error) room stands = Unit {0}

-- a read gives the text in place, and leaves it
abbrev pub Reads : Result (Option ℕ) Error → List ℕ → Places → Places → Type 0
Reads answer room old new = (new ≡ old) × Gives answer room old.stands

-- a text is written beside, and the one in place stays
abbrev pub Writes : List ℕ → Bool → Places → Places → Type 0
Writes text ok old new = (new.stands ≡ old.stands) × (IsTrue ok → new.beside ≡ Some text)

-- the text beside stands in place; where that failed, it does or it doesn't
abbrev pub Replaces : Bool → Places → Places → Type 0
Replaces ok old new =
    (IsTrue ok → new.stands ≡ old.beside) × ((new.stands ≡ old.stands) ⊎ (new.stands ≡ old.beside))
