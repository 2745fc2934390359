-- Which entries of a history a store keeps, and which it hands on when reports are taken.
-- Source: write-ahead logs (Gray and Reuter, 1993), which are written as they come; this project's own.
use Rattle.std.specs.Prelude.{ℕ, ◌+◌, ◌-◌, Bool, true, false, not, List, [], ◌∷◌, ◌++◌, length, take, drop, reverse, Some, None, if◌then◌else◌}
use Rattle.std.specs.declared.option.Option.{Option}
use Rattle.std.specs.List.{prefix_len}
use Rattle.xl_core.specs.declared.event.CoreEvent.{CoreEvent}
use Rattle.xl_core.specs.declared.event.CoreEvent.TheVariants.{Reports}
use Rattle.xl_store.specs.declared.entry.Entry.{Entry}
use Rattle.xl_store.specs.declared.retention.Batch.{Batch}
use Rattle.xl_store.specs.declared.retention.Gone.{Gone}
use Rattle.xl_store.specs.declared.retention.Gone.TheVariants as gone
use Rattle.xl_store.specs.declared.retention.Retention.{Retention}
use Rattle.xl_store.specs.declared.retention.Retention.TheVariants as retention
use Rattle.xl_store.specs.declared.retention.Kept.{Kept}
use Rattle.xl_store.specs.declared.retention.Kept.TheVariants as kept

-- by this event reports are taken
abbrev pub takes_reports : CoreEvent → Bool
takes_reports (Reports room) = true
takes_reports other = false

-- how many entries of a history stand up to the last one by which reports were taken, it included
abbrev pub through_reports : List Entry → ℕ
through_reports es = length es - prefix_len (λ e. not (takes_reports e.event)) (reverse es)

-- the entries behind it
abbrev pub since_reports : List Entry → List Entry
since_reports es = drop (through_reports es) es

-- whether any entry is kept
abbrev pub keeps_any : Retention → Bool
keeps_any retention.Nothing = false
keeps_any other = true

-- what is kept of a history
abbrev pub kept_of : Retention → List Entry → Kept
kept_of retention.Nothing es = kept.Nothing
kept_of retention.Whole es = kept.Whole es
kept_of retention.Passing es = kept.Passing (through_reports es) (since_reports es)

-- these entries of a history, from a place on
abbrev pub from_place : ℕ → List Entry → Batch
from_place first es = record { first = first; entries = drop first es }

-- what a store that kept so leaves of a history
abbrev pub left_of : Retention → List Entry → Option Batch
left_of retention.Nothing es = None
left_of retention.Whole es = Some (from_place 0 es)
left_of retention.Passing es = Some (from_place (through_reports es) es)

-- What is handed on when the last entry of a history takes reports: all from the place on up to which reports had been
-- taken before
abbrev pub handed_on : Retention → List Entry → Option Batch
handed_on retention.Passing es = Some (from_place (through_reports (take (length es - 1) es)) es)
handed_on other es = None

-- What the code of this crate relies on. No public clause cites the rest.

abbrev pub is_something : Kept → Bool
is_something kept.Nothing = false
is_something other = true

abbrev pub left_in : Kept → Option Batch
left_in kept.Nothing = None
left_in (kept.Whole es) = Some (record { first = 0; entries = es })
left_in (kept.Passing first es) = Some (record { first = first; entries = es })

abbrev pub batch_in : Gone → Option Batch
batch_in gone.Nothing = None
batch_in (gone.Entry e) = None
batch_in (gone.Batch b) = Some b

abbrev pub passed_on : Bool → ℕ → List Entry → Option Batch
passed_on false first es = None
passed_on true first es = Some (record { first = first; entries = es })

-- what an entry behind this history hands on
abbrev pub passed_by : Retention → List Entry → Entry → Option Batch
passed_by retention.Passing earlier e =
    passed_on (takes_reports e.event) (through_reports earlier) (since_reports earlier ++ e ∷ [])
passed_by other earlier e = None

-- what is kept with these entries behind it, if reports are taken by the last of them or not
abbrev pub kept_with : Kept → Bool → List Entry → Kept
kept_with kept.Nothing takes es = kept.Nothing
kept_with (kept.Whole earlier) takes es = kept.Whole (earlier ++ es)
kept_with (kept.Passing first earlier) takes es =
    if takes then kept.Passing (first + (length earlier + length es)) [] else kept.Passing first (earlier ++ es)

-- and what they hand on
abbrev pub passed_with : Kept → Bool → List Entry → Option Batch
passed_with (kept.Passing first earlier) takes es = passed_on takes first (earlier ++ es)
passed_with other takes es = None

-- how many entries there were up to the last one that is kept
abbrev pub how_many : Kept → ℕ
how_many kept.Nothing = 0
how_many (kept.Whole es) = length es
how_many (kept.Passing first es) = first + length es
