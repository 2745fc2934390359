-- What the life of a node shows of what members said: each validation that it heard or issued, full or partial.
-- Source: this project's own; that a fork shows who spoke twice is the accountability of quorum systems.
use Rattle.std.specs.Prelude.{ℕ, ◌≤◌, ◌&&◌, List, [], ◌∷◌, ◌++◌, All, count_by, option_map, option_to_list, Result, Ok, Err}
use Rattle.std.specs.Prelude.{Some, None}
use Rattle.std.specs.declared.option.Option.{Option}
use Rattle.xl_lists.specs.Agreement.{has_said, IsBacked}
use Rattle.xl_lists.specs.Lists.{IsValid, is_on}
use Rattle.xl_lists.specs.Quorums.{least_shown}
use Rattle.xl_lists.specs.declared.report.Report.{Report as Reported}
use Rattle.xl_lists.specs.declared.said.SaidLedger.{SaidLedger}
use Rattle.xl_core.specs.declared.event.CoreEvent.{CoreEvent}
use Rattle.xl_core.specs.declared.event.CoreEvent.TheVariants.{Frame}
use Rattle.xl_core.specs.declared.hearing.Spoken.{Spoken}
use Rattle.xl_core.specs.declared.hearing.Speech.{Speech}
use Rattle.xl_core.specs.declared.hearing.Speech.TheVariants as speech
use Rattle.xl_core.specs.declared.refusal.Refusal.{Refusal}
use Rattle.xl_core.specs.Core.{Core, core_happens}
use Rattle.xl_core.specs.CoreLives.{CoreHappening}
use Rattle.xl_core.specs.Hearing.{spoken_in}
use Rattle.xl_world.specs.Lives.{Life, first_of, reported_over}
use Rattle.xl_world.specs.World.{IsFitEvent, said_by}

-- what is said by it under a member's name, if it is a validation
abbrev pub said_in_speech : ℕ → Speech → Option SaidLedger
said_in_speech from (speech.Validation v) = Some (said_by from v)
said_in_speech from other = None

abbrev pub said_so : Result Spoken Refusal → Option SaidLedger
said_so (Ok said) = said_in_speech said.from said.what
said_so (Err why) = None

-- what a core hears a member say in an event: a frame with the right tag, from a listed member, whether its row takes
-- that or not
abbrev pub heard_by : Core → CoreEvent → Option SaidLedger
heard_by core (Frame now bytes) = said_so (spoken_in core.node.keys core.node.list.members bytes)
heard_by core other = None

-- what a happening shows: what is heard in it, and what the node issues in it
abbrev pub shown_in : Core → CoreHappening → List SaidLedger
shown_in core h =
    option_to_list (heard_by core h.event)
    ++ option_to_list (option_map (said_by core.node.me) (core_happens core h.event h.save).issued)

-- what happenings show, in their order
abbrev pub shown_over : Core → List CoreHappening → List SaidLedger
shown_over core [] = []
shown_over core (h ∷ hs) = shown_in core h ++ shown_over (core_happens core h.event h.save).core hs

-- what a life shows, and what it reports, each report with the list in force then
abbrev pub shown_by : Life → List SaidLedger
shown_by l = shown_over (first_of l) l.happenings

abbrev pub reported_in : Life → List Reported
reported_in l = reported_over (first_of l) l.happenings

-- a life of a node whose lists are ones
pub record IsFitLife (l : Life) : Type 0 where
  pub list : IsValid l.settings.list
  pub fit : All (λ h. IsFitEvent h.event) l.happenings

-- A quorum of the list of each report is shown to have said it, and that list is one.
abbrev pub ReportsAreShown : Type 0
ReportsAreShown =
    (l : Life) → IsFitLife l → All (λ r. IsValid r.list × IsBacked [] (shown_by l) r) (reported_in l)

-- how many members of both lists are shown to have said the one ledger here and the other there
abbrev pub named_twice : List SaidLedger → List SaidLedger → Reported → Reported → ℕ
named_twice here there r q =
    count_by (λ m. is_on q.list.members m && (has_said here m r.seq r.id && has_said there m q.seq q.id)) r.list.members

-- at least as many are as both quorums force
abbrev pub AreNamed : List SaidLedger → List SaidLedger → Reported → Reported → Type 0
AreNamed here there r q = least_shown r.list q.list ≤ named_twice here there r q

-- Of any two reports in two lives: as many members of both lists are shown to have said the one in the one life and the
-- other in the other. If the reports are of one sequence and differ, each of these members spoke twice.
abbrev pub ForksAreShown : Type 0
ForksAreShown =
    (here there : Life) → IsFitLife here → IsFitLife there →
    All (λ r. All (AreNamed (shown_by here) (shown_by there) r) (reported_in there)) (reported_in here)
