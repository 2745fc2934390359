-- what is noted of the node tells what is new of the node of the part
use Rattle.std.proofs.Common.{sym, subst}
use Rattle.xl_core.specs.Node.{Node}
use Rattle.xl_tell.specs.Before.{TellsOf, asked_of}
use Rattle.xl_tell.proofs.Heard.{asked_tells, unspent}
use Rattle.xl_tell.proofs.before.note_asked.Goals as goal

pub returns-then-branch : goal.returns-then-branch
returns-then-branch c =
    let number = c.node_asked-number.result in
    asked_tells c.args.world.now c.args.event.now number c.args.ask.now _ c.note_ask.new.before (c.reports-reports.ensures.run (unspent c.args.world.now.spent _ c.in-Some.ensures.spent)) c.requires (sym c.node_asked-number.ensures)
    c.in-Some.ensures.core (subst (λ (n : Node). TellsOf number n (asked_of c.args.event.now.at c.args.ask.now) c.note_ask.new.before) c.node-2.ensures.value (c.in_ok-note_ask.ensures c.if-branch.true))
