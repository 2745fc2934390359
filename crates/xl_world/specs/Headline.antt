-- The headline. Source: Chase and MacBrough, "Analysis of the XRP Ledger Consensus Protocol" (2018), whose forks these
-- are.
use Rattle.std.specs.Prelude.{◌≡◌, ℕ, List, All}
use Rattle.xl_lists.specs.declared.report.Report.{Report as Reported}
use Rattle.xl_lists.specs.Agreement.{Agree}
use Rattle.xl_lists.specs.Quorums.{Enough}
use Rattle.xl_world.specs.declared.plan.PlanNode.{PlanNode}
use Rattle.xl_world.specs.Plans.{AreDeclared, Shared}
use Rattle.xl_world.specs.World.{Step, AreFit, run}
use Rattle.xl_world.specs.Starts.{start}

-- The headline, of every run of every plan: if no frame is forged, two reports of one sequence name one ledger. It is so
-- wherever the quorums of the two lists that were in force at them exceed together the sum of both lists' sizes, minus the
-- overlap, plus the liars in the overlap. A node's list may change at any step.
abbrev pub Headline : Type 0
Headline =
    (shared : Shared) (liars : List ℕ) (plan : List PlanNode) (steps : List Step) →
    AreDeclared plan → AreFit steps → (run (start shared liars plan) steps).forged ≡ 0 →
    Agree liars (run (start shared liars plan) steps).reports

-- OF TWO NUMBERS

-- no report of i and no report of j share a sequence and differ in id
abbrev pub AgreeAt : List Reported → ℕ → ℕ → Type 0
AgreeAt reports i j = All (λ r. All (λ q. r.node ≡ i → q.node ≡ j → r.seq ≡ q.seq → r.id ≡ q.id) reports) reports

-- the lists are enough wherever a report of i and one of j share a sequence
abbrev pub EnoughAt : List ℕ → List Reported → ℕ → ℕ → Type 0
EnoughAt liars reports i j =
    All (λ r. All (λ q. r.node ≡ i → q.node ≡ j → r.seq ≡ q.seq → Enough liars r.list q.list) reports) reports
