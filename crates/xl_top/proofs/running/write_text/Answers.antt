-- what the promise says of the end, the status says
use Rattle.std.proofs.Common.{sym, subst}
use Rattle.xl_texts.specs.Streams.{streams}
use Rattle.xl_top.specs.Statuses.{IsAnswered}
use Rattle.xl_top.specs.Texts.{WritesText}
use Rattle.xl_top.proofs.After.{writes_kept, cause_after, known_after}
use Rattle.xl_top.proofs.running.write_text.Goals as goal

pub returns-clause-writes : goal.returns-clause-writes
returns-clause-writes g c =
    let old = streams (g.I.Source.left c.args.input.now) (g.I.Source.faults c.args.input.now) (g.O.Sink.held c.args.output.now) (g.O.Sink.faults c.args.output.now) in
    let new = streams (g.I.Source.left c.told.new.input) (g.I.Source.faults c.told.new.input) (g.O.Sink.held c.told.new.output) (g.O.Sink.faults c.told.new.output) in
    subst (WritesText c.args.telling old new) (sym c.status_after.ensures) (writes_kept c.args.telling old new c.told.result c.told.ensures.keeps)

pub returns-clause-cause : goal.returns-clause-cause
returns-clause-cause g c = cause_after _ c.told.result _ _ c.status_after.ensures c.told.ensures.keeps.read c.told.ensures.keeps.write

pub returns-clause-unread : goal.returns-clause-unread
returns-clause-unread g c = c.told.ensures.unread

pub returns-clause-known : goal.returns-clause-known
returns-clause-known g c = subst IsAnswered (sym c.status_after.ensures) (known_after c.told.result)
