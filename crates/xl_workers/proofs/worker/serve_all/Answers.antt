-- what is written through the slice is what the crew has
use Rattle.std.proofs.Common.{◌≡◌, List, length, sym, ap, ◌∙◌, subst, arith}
use Rattle.xl_workers.specs.declared.worker.Worker.{Worker}
use Rattle.xl_workers.specs.Serving.{AreReady, HaveServed}
use Rattle.xl_workers.proofs.Pairs.{put_back}
use Rattle.xl_workers.proofs.Porters.{no_door, kept_none}
use Rattle.xl_workers.proofs.worker.serve_all.Goals as goal

pub serve-requires-clause-porter : goal.serve-requires-clause-porter
serve-requires-clause-porter g c κs within = c.requires.porter

pub serve-requires-clause-ready : goal.serve-requires-clause-ready
serve-requires-clause-ready g c κs within =
    subst (λ (l : List (Worker g.row.L.Denot)). AreReady c.args.store.now l) (sym c.as_mut_slice.ensures.value)
    c.requires.ready

pub work_all-requires-clause-ready : goal.work_all-requires-clause-ready
work_all-requires-clause-ready g c κs within =
    subst (λ (l : List (Worker g.row.L.Denot)). AreReady c.args.store.now l)
    (sym c.as_mut_slice-else-is_some.ensures.value) c.requires.ready

pub returns-then-is_some : goal.returns-then-is_some
returns-then-is_some g c =
    let may = g.C.Clock.may_give c.args.host.now.clock.now in
    let shows = g.L.Link.shows in
    let store = c.args.store.now in
    let old : List (Worker g.row.L.Denot) = c.args.crew.now.workers.items in
    let new : List (Worker g.row.L.Denot) = c.serve.new.workers in
    let was = c.as_mut_slice.ensures.value in
    let long : length new ≡ length old = c.serve.ensures.long
    ∙ ap (λ (l : List (Worker g.row.L.Denot)). length l) was in
    let served = subst (λ (l : List (Worker g.row.L.Denot)). HaveServed store may shows l new) was
    c.serve.ensures.served in
    let back = put_back new old c.args.crew.now.workers.len long
    (let e = c.args.crew.now.workers.ok.0 in omega (arith, e)) in
    record {
      kept = c.serve.ensures.kept;
      served = subst (λ (l : List (Worker g.row.L.Denot)). HaveServed store may shows old l) (sym back) served;
      long = ap (λ (l : List (Worker g.row.L.Denot)). length l) back ∙ long;
    }

pub returns-else-is_some : goal.returns-else-is_some
returns-else-is_some g c =
    let may = g.C.Clock.may_give c.args.host.now.clock.now in
    let shows = g.L.Link.shows in
    let store = c.args.store.now in
    let old : List (Worker g.row.L.Denot) = c.args.crew.now.workers.items in
    let new : List (Worker g.row.L.Denot) = c.work_all.new.workers in
    let was = c.as_mut_slice-else-is_some.ensures.value in
    let long : length new ≡ length old = c.work_all.ensures.long
    ∙ ap (λ (l : List (Worker g.row.L.Denot)). length l) was in
    let served = subst (λ (l : List (Worker g.row.L.Denot)). HaveServed store may shows l new) was
    c.work_all.ensures.served in
    let back = put_back new old c.args.crew.now.workers.len long
    (let e = c.args.crew.now.workers.ok.0 in omega (arith, e)) in
    record {
      kept = kept_none store may g.D.Door.shows c.args.crew.now.porter c.requires.porter
          (no_door c.args.crew.now.porter.door (sym c.is_some.ensures ∙ c.if-is_some.false));
      served = subst (λ (l : List (Worker g.row.L.Denot)). HaveServed store may shows old l) (sym back) served;
      long = ap (λ (l : List (Worker g.row.L.Denot)). length l) back ∙ long;
    }
