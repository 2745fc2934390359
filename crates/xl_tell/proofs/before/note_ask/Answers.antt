-- it is what is asked
use Rattle.std.proofs.Common.{sym, subst}
use Rattle.std.specs.Prelude.{IfOk, IsTrue}
use Rattle.xl_sched.specs.declared.event.Ask.{Ask}
use Rattle.xl_tell.specs.Before.{TellsOf, asked_of}
use Rattle.xl_tell.proofs.before.note_ask.Goals as goal

pub returns-in-Issue : goal.returns-in-Issue
returns-in-Issue c =
    λ yes. subst (λ (a : Ask). TellsOf c.args.number c.args.node.now (asked_of c.args.at a) c.note_issue.new.before) (sym c.in-Issue.is) (c.note_issue.ensures yes c.in-Issue.seq c.in-Issue.id c.in-Issue.full)

pub returns-in-Timer : goal.returns-in-Timer
returns-in-Timer c =
    subst (λ (a : Ask). IfOk c.note_beat.result (λ noted. IsTrue noted → TellsOf c.args.number c.args.node.now (asked_of c.args.at a) c.note_beat.new.before)) (sym c.in-Timer.is) c.note_beat.ensures
