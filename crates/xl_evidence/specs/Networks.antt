-- Whom a whole network's journals name: liars alone, unless a tag was forged. Source: this project's own.
use Rattle.std.specs.Prelude.{◌≡◌, ℕ, List, [], ◌∷◌, ◌++◌, IsTrue, option_map, option_to_list, All, ◌≤◌}
use Rattle.std.specs.Prelude.{Some, None}
use Rattle.std.specs.declared.option.Option.{Option}
use Rattle.xl_base.specs.declared.ids.LedgerId.{LedgerId}
use Rattle.xl_lists.specs.Agreement.{has_said}
use Rattle.xl_lists.specs.Lists.{is_on}
use Rattle.xl_lists.specs.Quorums.{least_shown, liars_shared}
use Rattle.xl_lists.specs.declared.said.SaidLedger.{SaidLedger}
use Rattle.xl_core.specs.declared.event.CoreEvent.{CoreEvent}
use Rattle.xl_world.specs.declared.place.Fate.{Fate}
use Rattle.xl_world.specs.declared.place.Place.{Place}
use Rattle.xl_world.specs.Networks.{IsNew}
use Rattle.xl_world.specs.World.{World, Step, Act, Again, Torn, Mark, AreFit, place_at, reply_at, said_by, step, run}
use Rattle.xl_evidence.specs.Evidence.{heard_by}

-- what an event shows at a place: what its node hears in it, and what it issues in it
abbrev pub shown_at_place : ℕ → Option Place → CoreEvent → Fate → List SaidLedger
shown_at_place i None event fate = []
shown_at_place i (Some p) event fate =
    option_to_list (heard_by p.core event) ++ option_to_list (option_map (said_by i) (reply_at p event fate).issued)

abbrev pub shown_in_step : World → Step → List SaidLedger
shown_in_step w (Act i event fate) = shown_at_place i (place_at i w.places) event fate
shown_in_step w (Again i now number) = []
shown_in_step w (Torn i event number) = []
shown_in_step w Mark = []

-- what all nodes' journals together show of a run
abbrev pub shown_in_run : World → List Step → List SaidLedger
shown_in_run w [] = []
shown_in_run w (s ∷ ss) = shown_in_step w s ++ shown_in_run (step w s) ss

-- In each run of each new network, with restarts and torn saves, in which no frame is forged: whoever is shown to have
-- said two ledgers of one sequence is a liar.
abbrev pub OnlyLiarsAreNamed : Type 0
OnlyLiarsAreNamed =
    (w : World) (steps : List Step) → IsNew w → AreFit steps → (run w steps).forged ≡ 0 →
    let all = shown_in_run w steps in
    (m s : ℕ) (a b : LedgerId) → IsTrue (has_said all m s a) → IsTrue (has_said all m s b) → ¬ (a ≡ b) →
    IsTrue (is_on w.liars m)

-- And there two reports of one sequence differ only if as many members of both lists are liars as the quorums force.
abbrev pub ForksCountLiars : Type 0
ForksCountLiars =
    (w : World) (steps : List Step) → IsNew w → AreFit steps → (run w steps).forged ≡ 0 →
    let reports = (run w steps).reports in
    All (λ r. All (λ q. r.seq ≡ q.seq → ¬ (r.id ≡ q.id) →
    least_shown r.list q.list ≤ liars_shared w.liars r.list.members q.list.members) reports) reports
