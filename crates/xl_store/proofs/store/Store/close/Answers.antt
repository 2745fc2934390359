-- the journal leads from the first core and keeper to the last, so it leads from core to core and keeper to keeper, and
-- leaves what is kept
use Rattle.std.proofs.Common.{sym, subst, ap, ◌∙◌}
use Rattle.xl_turns.specs.Histories.{Runs}
use Rattle.xl_turns.specs.Passes.{opening}
use Rattle.xl_store.specs.declared.home.Home.{Home}
use Rattle.xl_store.specs.Closing.{KeepsAll}
use Rattle.xl_store.specs.Entries.{Leads}
use Rattle.xl_store.specs.Retentions.{left_in}
use Rattle.xl_store.specs.Stores.{start_of, keeper_of}
use Rattle.xl_store.proofs.Journals.{after_runs}
use Rattle.xl_store.proofs.Keeping.{cores_run, keeps_run}
use Rattle.xl_store.proofs.Kept.{kept_all, left_is}
use Rattle.xl_store.proofs.store.Store.close.Goals as goal

pub returns-clause-legal : goal.returns-clause-legal
returns-clause-legal g c =
    subst (λ (h : Home g.row.B.Denot g.row.K.Denot). Runs Leads (start_of c.args.self) c.close-object.result.journal h.core)
    (sym c.into_inner-core.ensures)
    (cores_run g.K.Keeper.held g.K.Keeper.saves g.K.Keeper.faults g.K.Keeper.save_gives (opening c.args.self.lock) _ _ c.close-object.ensures.legal)

pub returns-clause-life : goal.returns-clause-life
returns-clause-life g c = sym (after_runs (start_of c.args.self) _ c.close-object.result.journal (returns-clause-legal g c))

pub returns-clause-keeper : goal.returns-clause-keeper
returns-clause-keeper g c =
    subst (λ (h : Home g.row.B.Denot g.row.K.Denot). KeepsAll g.K.Keeper.held g.K.Keeper.saves g.K.Keeper.faults g.K.Keeper.save_gives
    (start_of c.args.self) c.close-object.result.journal (keeper_of c.args.self) h.keeper)
    (sym c.into_inner-core.ensures)
    (keeps_run g.K.Keeper.held g.K.Keeper.saves g.K.Keeper.faults g.K.Keeper.save_gives (opening c.args.self.lock) _ _ c.close-object.ensures.legal)

pub returns-clause-kept : goal.returns-clause-kept
returns-clause-kept g c =
    c.left.ensures
    ∙ ap (λ (h : Home g.row.B.Denot g.row.K.Denot). left_in h.kept) c.into_inner-core.ensures
    ∙ ap left_in (kept_all g.K.Keeper.held g.K.Keeper.saves g.K.Keeper.faults g.K.Keeper.save_gives c.args.self.retention
    (opening c.args.self.lock) _ c.close-object.result.journal c.args.self.kept c.close-object.ensures.legal)
    ∙ left_is c.args.self.retention c.close-object.result.journal
