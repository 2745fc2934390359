-- What it says that all that was heard was given. Source: this project's own.
use Rattle.std.specs.Prelude.{◌≡◌, ℕ, ◌==◌, List, [], All, Contains, filter, length}
use Rattle.xl_lists.specs.Quorums.{Enough}
use Rattle.xl_store.specs.Entries.{life_of}
use Rattle.xl_audit.specs.Opening.{core_of}
use Rattle.xl_audit.specs.Rights.{entries_of}
use Rattle.xl_world.specs.Lives.{AreUnforged, NeverBehind, given_by}
use Rattle.xl_journals.specs.Journals.{Journal, lives_in}
use Rattle.xl_evidence.specs.Journals.{IsRightJournal}
use Rattle.xl_forks.specs.Forks.{forks_in}
use Rattle.xl_given.specs.Given.{Noted, count_given}
use Rattle.xl_blamed.specs.Gathering.{given_from, heard_from, reports_from, words_from}

-- the journals of the node of a number
abbrev pub journals_of : List Journal → ℕ → List Journal
journals_of journals i = filter (λ j. j.opening.me == i) journals

-- a frame that is noted as given was given by its sender's node, in the lives that its journals tell
abbrev pub WasGiven : List Journal → Noted → Type 0
WasGiven journals x = Contains (given_by (lives_in (journals_of journals) x.member)) x.frame

-- Of right journals that holds of each frame that their drains are read to give.
abbrev pub DrainsGive : Type 0
DrainsGive =
    (journals : List Journal) → All IsRightJournal journals → All (WasGiven journals) (given_from 1 journals)

-- all that was heard was given
abbrev pub IsAllGiven : List Journal → Type 0
IsAllGiven journals =
    count_given (given_from 1 journals) (heard_from 1 journals) ≡ length (heard_from 1 journals)

-- Then nothing forged comes in any of them.
abbrev pub AllGivenIsUnforged : Type 0
AllGivenIsUnforged =
    (journals : List Journal) → All IsRightJournal journals → IsAllGiven journals →
    All (λ j. AreUnforged [] (lives_in (journals_of journals)) (core_of j.opening j.ring) (life_of (entries_of j.entries)))
    journals

-- each journal has its own node's keys
abbrev pub HasOwnKeys : Journal → Type 0
HasOwnKeys j = j.ring.me ≡ j.opening.me

-- And if no node's keeper falls behind from one of its journals to the next, no two reports differ whose lists are
-- enough for each other.
abbrev pub AllGivenAgree : Type 0
AllGivenAgree =
    (journals : List Journal) → All IsRightJournal journals → All HasOwnKeys journals → IsAllGiven journals →
    ((i : ℕ) → NeverBehind 0 (lives_in (journals_of journals) i)) →
    All (λ f. ¬ (Enough [] f.one.list f.other.list)) (forks_in (words_from 1 journals) (reports_from 1 journals))
