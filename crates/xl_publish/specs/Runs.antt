-- Runs of publishers' keys and rolls, and the law that their order is nothing. Source: this project's own rule.
use Rattle.std.specs.Prelude.{◌≡◌, ◌↔◌, ℕ, ◌==◌, List, [], ◌∷◌, ◌++◌, filter, Contains, Option, is_none, if◌then◌else◌}
use Rattle.xl_lists.specs.Lists.{TrustedList}
use Rattle.xl_publish.specs.Fields.{publisher_in}
use Rattle.xl_publish.specs.Orders.{greatest}
use Rattle.xl_publish.specs.Refusing.{refusal_of}
use Rattle.xl_publish.specs.Registers.{Register, no_publishers, kept_of, after_key, after_roll}
use Rattle.xl_publish.specs.Forces.{list_at}

-- a publisher is given a key, or a roll comes
pub data Act : Type 0 where
  Key : ℕ → List ℕ → Act
  Rolled : List ℕ → Act

abbrev pub after_act : Register → Act → Register
after_act register (Key publisher key) = after_key register publisher key
after_act register (Rolled bytes) = after_roll register bytes

abbrev pub after_from : Register → List Act → Register
after_from register [] = register
after_from register (act ∷ acts) = after_from (after_act register act) acts

-- what is known after a run
abbrev pub after : List Act → Register
after acts = after_from no_publishers acts

-- the roll of an act, if it is taken
abbrev pub taken_at : Register → Act → List (List ℕ)
taken_at register (Key publisher key) = []
taken_at register (Rolled bytes) = if is_none (refusal_of register.keys bytes) then bytes ∷ [] else []

abbrev pub taken_from : Register → List Act → List (List ℕ)
taken_from register [] = []
taken_from register (act ∷ acts) = taken_at register act ++ taken_from (after_act register act) acts

-- the rolls that were taken in a run, in order
abbrev pub taken_in : List Act → List (List ℕ)
taken_in acts = taken_from no_publishers acts

-- those of a publisher
abbrev pub rolls_of : ℕ → List (List ℕ) → List (List ℕ)
rolls_of publisher rolls = filter (λ roll. publisher_in roll == publisher) rolls

-- the same rolls, in whatever order and however often
abbrev pub AreSame : List (List ℕ) → List (List ℕ) → Type 0
AreSame a b = (roll : List ℕ) → Contains a roll ↔ Contains b roll

-- after a roll that comes behind any run, the kept roll of a publisher is the greatest of its rolls that were taken
abbrev pub KeepsTheGreatest : Register → List ℕ → Register → Type 0
KeepsTheGreatest old bytes new = (acts : List Act) (publisher : ℕ) → old ≡ after acts →
    kept_of new publisher ≡ greatest (rolls_of publisher (taken_in (acts ++ Rolled bytes ∷ [])))

-- any run that took the same rolls as one that led here has this list in force
abbrev pub IsInAnyOrder : Register → ℕ → ℕ → Option TrustedList → Type 0
IsInAnyOrder register now threshold list = (acts others : List Act) → register ≡ after acts →
    AreSame (taken_in acts) (taken_in others) → list ≡ list_at (after others).kept now threshold

-- The law: the kept roll of a publisher is the greatest of its rolls that were taken;
abbrev pub KeepsGreatest : Type 0
KeepsGreatest = (acts : List Act) (publisher : ℕ) →
    kept_of (after acts) publisher ≡ greatest (rolls_of publisher (taken_in acts))

-- so the kept rolls are a function of the set of rolls that were taken,
abbrev pub KeepsAlike : Type 0
KeepsAlike = (a b : List Act) → AreSame (taken_in a) (taken_in b) → (after a).kept ≡ (after b).kept

-- and so is the list in force at every second
abbrev pub ListsAlike : Type 0
ListsAlike = (a b : List Act) (now threshold : ℕ) → AreSame (taken_in a) (taken_in b) →
    list_at (after a).kept now threshold ≡ list_at (after b).kept now threshold
