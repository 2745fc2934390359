-- the lesser of what is there and what fits takes as many as what fits, and no report bears on what is covered
use Rattle.std.proofs.Common.{◌∙◌, ◌++◌, length, drop, List, ap, sym, subst, arith}
use Rattle.std.proofs.lemmas.List.{length-take}
use Rattle.xl_core.specs.declared.report.Report.{Report}
use Rattle.xl_core.specs.Core.{Core}
use Rattle.xl_core.specs.Replies.{HandsOut}
use Rattle.xl_core.specs.Stops.{IsCovered}
use Rattle.xl_core.proofs.Handing.{take_most, drop_most}
use Rattle.xl_core.proofs.the_core.Core.reports.Goals as goal

pub returns-clause-step : goal.returns-clause-step
returns-clause-step g c =
    let room = length c.args.room.now in
    let items : List Report = c.self.inside.untaken.items in
    let n = c.take_reports.result in
    let given = take_most items n room c.take_reports.ensures.count in
    subst (λ (a : Core). HandsOut a (let b : Core = record { node = c.self.inside.node; waiting = c.self.inside.waiting; greetings = c.self.inside.greetings; untaken = c.take_reports.new.untaken; stopped = c.self.inside.stopped } in b) n c.args.room.now c.take_reports.new.room) c.self.view_is
    (record {
      core = ap (λ q. let b : Core = record { node = c.self.inside.node; waiting = c.self.inside.waiting; greetings = c.self.inside.greetings; untaken = q; stopped = c.self.inside.stopped } in b) c.take_reports.ensures.taken
          ∙ ap (λ (xs : List Report). let b : Core = record { node = c.self.inside.node; waiting = c.self.inside.waiting; greetings = c.self.inside.greetings; untaken = record { items = xs; lost = c.self.inside.untaken.lost }; stopped = c.self.inside.stopped } in b) (drop_most items n room c.take_reports.ensures.count);
      count = omega (arith, c.take_reports.ensures.count, length-take room items);
      room = c.take_reports.ensures.given ∙ ap (λ (xs : List Report). xs ++ drop n c.args.room.now) given;
    })

pub returns-clause-stop : goal.returns-clause-stop
returns-clause-stop g c = λ held was.
    subst (λ (a : Core). IsCovered held (record a { untaken = c.take_reports.new.untaken })) (sym c.self.view_is) (record { saved = was.saved; own = was.own; waiting = was.waiting })
