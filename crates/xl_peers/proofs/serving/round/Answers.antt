-- the store's answer decides: to stop ends the serving, not to goes on to the opening, and a full store ends it
use Rattle.std.proofs.Common.{sym, subst, false, arith}
use Rattle.xl_turns.specs.Passes.{known}
use Rattle.xl_core.specs.declared.event.CoreEvent.TheVariants.{Stopped}
use Rattle.xl_core.specs.Answers.{Told}
use Rattle.xl_store.specs.Stores.{start_of, turns_of, Called, Refused}
use Rattle.xl_peers.specs.declared.ends.Served.TheVariants as served
use Rattle.xl_peers.specs.Serving.{Serves}
use Rattle.xl_peers.proofs.Rounds.{asked, asked_last, full_on}
use Rattle.xl_peers.proofs.serving.round.Goals as goal

pub returns-then-answer-clause-follows : goal.returns-then-answer-clause-follows
returns-then-answer-clause-follows g c k0 w0 s =
    let may = g.C.Clock.may_give c.args.host.now.clock.now in
    let called = subst (λ b. Called c.args.store.now c.args.pass.now Stopped (Told b) c.stopped.new.pass)
    c.if-answer.true c.in-Ok.ensures.called in
    asked_last (start_of c.args.store.now) may c.args.member k0 w0 (turns_of c.args.store.now) (known c.args.pass.now)
    (known c.stopped.new.pass) (g.L.Link.shows c.args.link.now) s called.made
    (let more = called.later in omega arith)

pub returns-else-answer-clause-follows : goal.returns-else-answer-clause-follows
returns-else-answer-clause-follows g c k0 w0 s =
    let may = g.C.Clock.may_give c.args.host.now.clock.now in
    let called = subst (λ b. Called c.args.store.now c.args.pass.now Stopped (Told b) c.stopped.new.pass)
    c.if-answer.false c.in-Ok.ensures.called in
    c.connect.ensures.follows k0 w0 (asked (start_of c.args.store.now) may c.args.member k0 w0 (known c.args.pass.now)
    (known c.stopped.new.pass) (g.L.Link.shows c.args.link.now) false s called.made
    (let more = called.later in omega arith))

pub returns-in-Err-StoreFull-clause-follows : goal.returns-in-Err-StoreFull-clause-follows
returns-in-Err-StoreFull-clause-follows g c k0 w0 s =
    let store = c.args.store.now in
    let may = g.C.Clock.may_give c.args.host.now.clock.now in
    let refused = subst (λ e. Refused store c.args.pass.now e c.stopped.new.pass) c.in-Err-StoreFull.field-0-is
    c.in-Err-StoreFull.ensures.refused in
    subst (λ n. Serves (start_of store) (turns_of store) may c.args.member k0 w0 (served.StoreFull n)
    (known c.stopped.new.pass) (g.L.Link.shows c.args.link.now)) (sym c.in-Err-StoreFull.limit-is)
    (full_on store may c.args.member k0 w0 c.args.pass.now c.stopped.new.pass (g.L.Link.shows c.args.link.now)
    c.in-Err-StoreFull.limit s refused)
