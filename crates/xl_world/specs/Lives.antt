-- The headline of the lives of nodes, as their journals tell them. There is no world, and no order among the lives of
-- two nodes is known. Source: Chase and MacBrough, "Analysis of the XRP Ledger Consensus Protocol" (2018).
use Rattle.std.specs.Prelude.{◌≡◌, ℕ, ◌≤◌, ◌⊎◌, false, List, [], ◌∷◌, ◌++◌, All, Contains, IsTrue, IfOk, option_map, option_to_list}
use Rattle.std.specs.List.{flat_map}
use Rattle.xl_lists.specs.Lists.{IsValid, is_on}
use Rattle.xl_lists.specs.Quorums.{Enough}
use Rattle.xl_lists.specs.declared.report.Report.{Report as Reported}
use Rattle.xl_lists.specs.declared.said.SaidLedger.{SaidLedger}
use Rattle.xl_core.specs.declared.event.CoreEvent.{CoreEvent}
use Rattle.xl_core.specs.declared.event.CoreEvent.TheVariants.{Frame}
use Rattle.xl_core.specs.declared.settings.Settings.{Settings}
use Rattle.xl_core.specs.Core.{Core, core_happens, with_queues}
use Rattle.xl_core.specs.CoreLives.{CoreHappening, core_after, given_over}
use Rattle.xl_core.specs.Hearing.{spoken_in}
use Rattle.xl_core.specs.Node.{opened_node}
use Rattle.xl_world.specs.World.{IsFitEvent, reported_by, said_by}

-- a core's life: how it was opened, and what happened to it since
pub record Life : Type 0 where
  pub settings : Settings
  pub moment : ℕ
  pub kept : ℕ
  pub happenings : List CoreHappening

abbrev pub first_of : Life → Core
first_of l = with_queues (opened_node l.settings l.moment l.kept)

abbrev pub last_of : Life → Core
last_of l = core_after (first_of l) l.happenings

-- every frame that a node gave in its lives
abbrev pub given_by : List Life → List (List ℕ)
given_by = flat_map (λ l. given_over (first_of l) l.happenings)

-- what a core issues in happenings
abbrev pub issued_over : Core → List CoreHappening → List SaidLedger
issued_over core [] = []
issued_over core (h ∷ hs) =
    let reply = core_happens core h.event h.save in
    option_to_list (option_map (said_by core.node.me) reply.issued) ++ issued_over reply.core hs

-- what a node issues in its lives
abbrev pub issued_by : List Life → List SaidLedger
issued_by = flat_map (λ l. issued_over (first_of l) l.happenings)

-- what a core reports in happenings, each under the list that was in force then
abbrev pub reported_over : Core → List CoreHappening → List Reported
reported_over core [] = []
reported_over core (h ∷ hs) =
    let reply = core_happens core h.event h.save in
    option_to_list (option_map (reported_by reply.core.node) reply.report) ++ reported_over reply.core hs

abbrev pub reports_of : List Life → List Reported
reports_of = flat_map (λ l. reported_over (first_of l) l.happenings)

-- what a core hears in a frame comes from a liar, or the frame was given by its sender's node
abbrev pub IsUnforged : List ℕ → (ℕ → List Life) → Core → CoreEvent → Type 0
IsUnforged liars lives core (Frame now bytes) =
    IfOk (spoken_in core.node.keys core.node.list.members bytes)
    (λ said. IsTrue (is_on liars said.from) ⊎ Contains (given_by (lives said.from)) bytes)
IsUnforged liars lives core other = Unit {0}

abbrev pub AreUnforged : List ℕ → (ℕ → List Life) → Core → List CoreHappening → Type 0
AreUnforged liars lives core [] = Unit {0}
AreUnforged liars lives core (h ∷ hs) =
    IsUnforged liars lives core h.event × AreUnforged liars lives (core_happens core h.event h.save).core hs

-- a life of the node of a number, with its own keys and lists that may be ones, in which nothing forged comes
pub record IsLife (liars : List ℕ) (lives : ℕ → List Life) (i : ℕ) (l : Life) : Type 0 where
  pub me : l.settings.me ≡ i
  pub keys : l.settings.keys.me ≡ i
  pub list : IsValid l.settings.list
  pub fit : All (λ h. IsFitEvent h.event) l.happenings
  pub unforged : AreUnforged liars lives (first_of l) l.happenings

-- each life is opened with a number that isn't below the one that was kept at the end of the life before
abbrev pub NeverBehind : ℕ → List Life → Type 0
NeverBehind kept [] = Unit {0}
NeverBehind kept (l ∷ ls) = (kept ≤ l.kept) × NeverBehind (last_of l).node.kept ls

-- the lives of each number that is no liar are such ones
abbrev pub AreLives : List ℕ → (ℕ → List Life) → Type 0
AreLives liars lives =
    (i : ℕ) → is_on liars i ≡ false → All (IsLife liars lives i) (lives i) × NeverBehind 0 (lives i)

-- The headline, of all lives of all nodes: two reports of one sequence name one ledger, wherever the quorums of the two
-- lists that were in force at them are enough.
abbrev pub HeadlineOfLives : Type 0
HeadlineOfLives =
    (liars : List ℕ) (lives : ℕ → List Life) → AreLives liars lives →
    (i j : ℕ) → is_on liars i ≡ false → is_on liars j ≡ false →
    All (λ r. All (λ q. Enough liars r.list q.list → r.seq ≡ q.seq → r.id ≡ q.id) (reports_of (lives j))) (reports_of (lives i))
