-- the store's answer decides: to stop ends the attending, not to goes on to the next line, and a full store ends it
use Rattle.std.proofs.Common.{sym, subst, arith}
use Rattle.xl_turns.specs.Passes.{known}
use Rattle.xl_core.specs.declared.event.CoreEvent.TheVariants.{Stopped}
use Rattle.xl_core.specs.Answers.{Told}
use Rattle.xl_store.specs.Stores.{start_of, turns_of, Called, Refused}
use Rattle.xl_door.specs.declared.ends.Attended.TheVariants as attended
use Rattle.xl_door.specs.Attending.{Attends}
use Rattle.xl_door.proofs.Rounds.{full_on, round_follows, stops_at}
use Rattle.xl_door.proofs.attending.round.Goals as goal

pub returns-then-answer-clause-follows : goal.returns-then-answer-clause-follows
returns-then-answer-clause-follows g c =
    let may = g.C.Clock.may_give c.args.clock.now in
    let called = subst (λ b. Called c.args.store.now c.args.pass.now Stopped (Told b) c.stopped.new.pass)
    c.if-answer.true c.in-Ok.ensures.called in
    stops_at (start_of c.args.store.now) may (turns_of c.args.store.now) (known c.args.pass.now)
    (known c.stopped.new.pass) (g.D.Door.shows c.args.door.now) called.made
    (let more = called.later in omega (arith, more))

pub returns-else-answer-clause-follows : goal.returns-else-answer-clause-follows
returns-else-answer-clause-follows g c =
    let may = g.C.Clock.may_give c.args.clock.now in
    let called = subst (λ b. Called c.args.store.now c.args.pass.now Stopped (Told b) c.stopped.new.pass)
    c.if-answer.false c.in-Ok.ensures.called in
    round_follows (start_of c.args.store.now) may (turns_of c.args.store.now) (known c.args.pass.now)
    (known c.stopped.new.pass) (known c.hear.new.pass) (g.D.Door.shows c.args.door.now) (g.D.Door.shows c.hear.new.door)
    c.hear.result called.made (let more = called.later in omega (arith, more)) c.hear.ensures.hears c.hear.ensures.over

pub returns-in-Err-StoreFull-clause-follows : goal.returns-in-Err-StoreFull-clause-follows
returns-in-Err-StoreFull-clause-follows g c =
    let store = c.args.store.now in
    let may = g.C.Clock.may_give c.args.clock.now in
    let refused = subst (λ e. Refused store c.args.pass.now e c.stopped.new.pass) c.in-Err-StoreFull.field-0-is
    c.in-Err-StoreFull.ensures.refused in
    subst (λ n. Attends (start_of store) (turns_of store) may (known c.args.pass.now) (g.D.Door.shows c.args.door.now)
    (attended.StoreFull n) (known c.stopped.new.pass) (g.D.Door.shows c.args.door.now)) (sym c.in-Err-StoreFull.limit-is)
    (full_on store may c.args.pass.now c.stopped.new.pass (g.D.Door.shows c.args.door.now) c.in-Err-StoreFull.limit
    refused)
