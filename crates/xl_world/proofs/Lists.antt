-- Reports agree wherever the lists that were in force at them are enough.
use Rattle.std.proofs.Common.{◌≡◌, ℕ, List, refl, sym, subst}
use Rattle.std.specs.Prelude.{slice_index_or}
use Rattle.std.proofs.lemmas.List.Elements.{All-map}
use Rattle.xl_lists.specs.declared.report.Report.{Report}
use Rattle.xl_lists.specs.Agreement.{Agree}
use Rattle.xl_world.specs.declared.plan.PlanNode.{PlanNode}
use Rattle.xl_world.specs.Headline.{AgreeAt, EnoughAt, Headline}
use Rattle.xl_world.specs.Networks.{IsNew, IsOpened}
use Rattle.xl_world.specs.Plans.{AreDeclared, Shared, planned_settings}
use Rattle.xl_world.specs.Starts.{IsRun, start, start_of}
use Rattle.xl_world.specs.World.{World}
use Rattle.xl_world.proofs.Runs.{headline_of_networks}

-- the start of a plan is a new network
start_new : (shared : Shared) (liars : List ℕ) (plan : List PlanNode) → AreDeclared plan → IsNew (start shared liars plan)
start_new shared liars plan declared = record {
  opened = All-map IsOpened (start_of shared) plan
      (λ k e in_plan. let d : PlanNode = slice_index_or plan k e in
      record { settings = planned_settings shared d; moment = d.moment; kept = 0; list = (declared k e in_plan).list; opened = refl });
  sent = refl;
  said = refl;
  reports = refl;
}

pub core_headline : Headline
core_headline shared liars plan steps declared fit none =
    headline_of_networks (start shared liars plan) steps (start_new shared liars plan declared) fit none

-- so the reports of a world that is a run agree, where no frame was forged
pub world_agrees : (w : World) → IsRun w → w.forged ≡ 0 → Agree w.liars w.reports
world_agrees w is_run none =
    let is = is_run.5 in
    subst (λ (u : World). Agree w.liars u.reports) (sym is)
    (core_headline is_run.0 w.liars is_run.1 is_run.2 is_run.3 is_run.4 (subst (λ (u : World). u.forged ≡ 0) is none))

-- and those of two numbers do, where their lists were enough
pub agree_at : (liars : List ℕ) (reports : List Report) (i j : ℕ) → Agree liars reports → EnoughAt liars reports i j → AgreeAt reports i j
agree_at liars reports i j agree enough k d k_in l e l_in of_i of_j same =
    agree k d k_in l e l_in (enough k d k_in l e l_in of_i of_j same) same
