-- What the lists that are written are, and what reading them gives. Source: this project's negative lists.
use Rattle.std.specs.Prelude.{◌≡◌, ◌⊎◌, ℕ, ◌+◌, ◌-◌, ◌*◌, ◌≤◌, ◌<◌, true, All, List, [], ◌∷◌, ◌++◌, length, map, take, count_by, IfSome}
use Rattle.std.specs.Prelude.{Some, None}
use Rattle.std.specs.declared.option.Option.{Option}
use Rattle.std.specs.List.{flat_map}
use Rattle.std.specs.Option.{option_and_then}
use Rattle.xl_lines.specs.declared.machine.Verdict.TheVariants.{Good}
use Rattle.xl_lines.specs.Lines.{Line as InputLine, lines_of}
use Rattle.xl_lines.specs.Rules.{Step, goes_on, refuses as stops, finds}
use Rattle.xl_lines.specs.Told.{step_at}
use Rattle.xl_lists.specs.declared.said.SaidLedger.{SaidLedger}
use Rattle.xl_lists.specs.Lists.{TrustedList, IsValid, is_on}
use Rattle.xl_lists.specs.Quorums.{Enough}
use Rattle.xl_nunl.specs.Lists.{IsNegative, MayBeInForce, least_quorum, list_without}
use Rattle.xl_sched.specs.Answers.{LineAnswer, passes, gives, refuses}
use Rattle.xl_sched.specs.Reading.{after}
use Rattle.xl_world.specs.Headline.{AgreeAt}
use Rattle.xl_running.specs.Running.{Running, answer_in, at_first, knows, limits, world_of}
use Rattle.xl_spelling.specs.Spellings.{MayBeSet, list_line, spelling}
use Rattle.xl_negative.specs.Listing.{list_keeping}
use Rattle.xl_negative.specs.Seats.{seat_at}
use Rattle.xl_negative.specs.Writing.{Change, Writing, adds, at_first as nothing_read, change_of, negative_of, rules, takes, with_running, as_line}

-- a schedule that is written again, by the list of all that was heard
abbrev pub ByList : Type 0
ByList = Writing (List SaidLedger)

-- a change leaves out different members of the full list, a quarter at most; the list without them is valid, and may be
-- in force
pub record IsLawful (full : List ℕ) (change : Change) : Type 0 where
  pub negative : IsNegative full change.negative
  pub valid : IsValid change.list
  pub in_force : MayBeInForce full change.list

-- The law of changes.
abbrev pub ChangesAreLawful : Type 0
ChangesAreLawful = (full : TrustedList) (negative scores : List ℕ) (i : ℕ) → IsValid full → IsNegative full.members negative
    → IfSome (change_of full.members negative scores i) (IsLawful full.members)

-- a list that may come into force at a node which leaves out members of its full list, and that list itself
abbrev pub IsInForce : TrustedList → TrustedList → Type 0
IsInForce full list =
    (list ≡ full) ⊎ ((negative : List ℕ) × IsNegative full.members negative × (list ≡ list_without full.members negative))

-- The law of lists in force: at two nodes with one full list, some of whose members are liars, any two are enough for
-- each other, if twice the least quorum exceeds the members and the liars among them.
abbrev pub ListsAreEnough : Type 0
ListsAreEnough = (full a b : TrustedList) (liars : List ℕ) → IsValid full → least_quorum (length full.members) ≤ full.quorum
    → length full.members + count_by (is_on liars) full.members < 2 * least_quorum (length full.members)
    → IsInForce full a → IsInForce full b → Enough liars a b

-- a line that sets a list is added, and the list comes into force
abbrev pub sets : ByList → List ℕ → ℕ → TrustedList → Step ByList
sets s text i list =
    let l = list_line s.running.reading i list in
    goes_on (text ++ as_line (spelling l)) (with_running s (takes (knows s.running (after s.running.reading l)) l))

-- The law of added lines: each is read as the line that it is, if one line more and one list more may come.
abbrev pub AddedAreLists : Type 0
AddedAreLists = (s : ByList) (text : List ℕ) (i : ℕ) (list : TrustedList) → MayBeSet s.running.reading i list
    → adds s text (list_line s.running.reading i list) ≡ sets s text i list

-- the schedule behind a line, unless the line is refused
abbrev pub read_on : Running → LineAnswer → Option Running
read_on r (passes reading) = Some (knows r reading)
read_on r (gives l reading) = Some (takes (knows r reading) l)
read_on r (refuses why) = None

-- and behind lines
abbrev pub runs : Running → List (List ℕ) → Option Running
runs r [] = Some r
runs r (bytes ∷ lines) = option_and_then (λ next. runs next lines) (read_on r (answer_in r bytes))

-- the text of lines
abbrev pub texts : List (List ℕ) → List ℕ
texts lines = flat_map as_line lines

-- a line of a text, ended by its newline
abbrev pub ended_line : List ℕ → InputLine
ended_line bytes = record { bytes = bytes; ended = true }

-- a text is cut into lines that a reader doesn't refuse, and that lead from a schedule to another
pub record Runs (before : Running) (bytes : List ℕ) (after : Running) : Type 0 where
  pub lines : List (List ℕ)
  pub text : bytes ≡ texts lines
  pub cut : lines_of bytes ≡ map ended_line lines
  pub leads : runs before lines ≡ Some after

-- what a step leads to, and what further lines then lead to, unless the text ends there
unfoldable pub led_by : (ByList → Option ByList) → Step ByList → Option ByList
led_by further (goes_on text s) = further s
led_by further (stops text) = None
led_by further (finds text) = None

-- what the lines of an input lead to
abbrev pub ran_from : ℕ → ByList → List InputLine → Option ByList
ran_from left s [] = Some s
ran_from left s (l ∷ ls) = led_by (λ next. ran_from (left - 1) next ls) (step_at limits (rules list_keeping) left s l)

-- what ran here once the whole input was read
abbrev pub ran_by : List ℕ → Option ByList
ran_by bytes = ran_from limits.lines (nothing_read list_keeping) (lines_of bytes)

-- The law of what is written: it leads to the schedule that ran here.
abbrev pub WrittenRuns : Type 0
WrittenRuns = (bytes : List ℕ) → (negative_of bytes).verdict ≡ Good
    → (after : ByList) × (ran_by bytes ≡ Some after) × Runs at_first (negative_of bytes).text after.running

-- the full list of the node of a number, if there is one
abbrev pub full_at : ByList → ℕ → Option TrustedList
full_at s i = (seat_at list_keeping s.seats i).full

-- as far as the lines of an input are read, the node of a number has this full list from its line on
abbrev pub HasOneList : List ℕ → ℕ → TrustedList → Type 0
HasOneList bytes i full =
    (n : ℕ) → IfSome (ran_from limits.lines (nothing_read list_keeping) (take n (lines_of bytes)))
    (λ s. IfSome (full_at s i) (λ list. list ≡ full))

-- The law of the lists of a run: each list that was ever in force at a member with one full list is that list, or leaves
-- out some of it.
abbrev pub ListsAreInForce : Type 0
ListsAreInForce = (bytes : List ℕ) (full : TrustedList) (i : ℕ) (after : ByList) → ran_by bytes ≡ Some after
    → 1 ≤ i → i ≤ 64 → HasOneList bytes i full
    → All (λ f. f.node ≡ i → IsInForce full f.list) (world_of after.running).lists

-- The headline, of each schedule that is written again: two nodes with one full list, some of whose members are liars,
-- never report different ledgers of one sequence, if no frame is forged, the list's quorum is at least the least one,
-- and twice that exceeds the members and the liars among them.
abbrev pub ReportsAgree : Type 0
ReportsAgree = (bytes : List ℕ) (full : TrustedList) (i j : ℕ) (after : ByList) → ran_by bytes ≡ Some after
    → HasOneList bytes i full → HasOneList bytes j full
    → least_quorum (length full.members) ≤ full.quorum
    → length full.members + count_by (is_on (world_of after.running).liars) full.members
    < 2 * least_quorum (length full.members)
    → (world_of after.running).forged ≡ 0
    → AgreeAt (world_of after.running).reports i j
