-- What a save leaves in a file. Source: this profile, by which a stop in a save may leave the former number or the
-- asked one.
use Rattle.std.specs.Prelude.{◌≡◌, ℕ, ◌⊎◌, Bool, IsTrue, Option, Some, if◌then◌else◌}
use Rattle.xl_base.specs.Counts.{one_more}
use Rattle.xl_keep.specs.Files.{Places, Told}
use Rattle.xl_keep.specs.Texts.{text_of, Says}

-- the number's text stands in place; after a save that failed, it does or the former text does
abbrev pub Saved : ℕ → Bool → Places → Places → Type 0
Saved n ok old new =
    (IsTrue ok → new.stands ≡ Some (text_of n)) × ((new.stands ≡ old.stands) ⊎ (new.stands ≡ Some (text_of n)))

-- the text in place says this number, and nothing changes
abbrev pub SaysSo : ℕ → Places → Places → Type 0
SaysSo n old new = (new ≡ old) × Says old.stands n

-- the text in place says the number that was loaded, and stays, and that number's text was written beside it
abbrev pub Loaded : ℕ → Places → Places → Type 0
Loaded n old new = (new.stands ≡ old.stands) × (new.beside ≡ Some (text_of n)) × Says old.stands n

-- one fault more where it failed, and else none
abbrev pub counted : Bool → ℕ → ℕ
counted ok faults = if ok then faults else one_more faults

-- what a save leaves, and what it counts
pub record Saving (n : ℕ) (ok : Bool) (old new : Option Places) (before after : ℕ) : Type 0 where
  pub saved : Told (Saved n ok) old new
  pub counted : after ≡ counted ok before
