-- What a page is handed. Source: this project's own.
use Rattle.std.specs.Prelude.{◌≡◌, ◌≤◌, ℕ, List, length, take}
use Rattle.xl_lines.specs.declared.machine.Verdict.{Verdict}
use Rattle.xl_lines.specs.declared.machine.Verdict.TheVariants.{Good, Found, Refused}
use Rattle.xl_lines.specs.Rules.{Told}
use Rattle.xl_base.specs.declared.status.Status.{Status}
use Rattle.xl_base.specs.declared.status.Status.TheVariants.{Done, Fork, InputRefused, OutOfMemory}

-- the text has this length, and stands at the front of the room, if it fits there
abbrev pub Handed : List ℕ → ℕ → List ℕ → Type 0
Handed text n room = (n ≡ length text) × (n ≤ length room → take n room ≡ text)

-- the whole text is handed out, and its verdict is this
abbrev pub HandsAll : Verdict → Told → ℕ → List ℕ → Type 0
HandsAll verdict told n room = (told.verdict ≡ verdict) × Handed told.text n room

-- the status of a whole text by its verdict
abbrev pub the_status : Verdict → Status
the_status Good = Done
the_status Found = Fork
the_status Refused = InputRefused

-- a page ends so: the whole text is handed out, and the status is its own, or memory ran out
abbrev pub IsPage : Told → Status → ℕ → List ℕ → Type 0
IsPage told Done n room = HandsAll Good told n room
IsPage told Fork n room = HandsAll Found told n room
IsPage told InputRefused n room = HandsAll Refused told n room
IsPage told OutOfMemory n room = Unit {0}
IsPage told other n room = ⊥
