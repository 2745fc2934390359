-- a session goes on from the question to what the member is told and from there to the read, or ends in one of them
use Rattle.std.proofs.Common.{arith}
use Rattle.xl_peers.proofs.Handed.{turns_on}
use Rattle.xl_peers.proofs.talking.turn.Goals as goal

pub returns-in-Err-clause-turned : goal.returns-in-Err-clause-turned
returns-in-Err-clause-turned g c k0 w0 s =
    c.in-Err.ensures.ends (g.C.Clock.may_give c.args.host.now.clock.now) c.args.member (g.L.Link.shows c.args.link.now)
    c.args.inbox.now.feed.held k0 w0 s

pub returns-in-Err-tell-clause-turned : goal.returns-in-Err-tell-clause-turned
returns-in-Err-tell-clause-turned g c k0 w0 s =
    let may = g.C.Clock.may_give c.args.host.now.clock.now in
    let held = c.args.inbox.now.feed.held in
    let asked = c.in-Ok.ensures.on may c.args.member (g.L.Link.shows c.args.link.now) held k0 w0 s in
    c.in-Err-tell.ensures.told may held k0 w0 asked

pub returns-clause-turned : goal.returns-clause-turned
returns-clause-turned g c =
    let may = g.C.Clock.may_give c.args.host.now.clock.now in
    let held = c.args.inbox.now.feed.held in
    let asked = c.in-Ok.ensures.on may c.args.member (g.L.Link.shows c.args.link.now) held in
    turns_on c.args.store.now may c.args.member c.hear.result c.args.pass.now c.tell.new.pass c.hear.new.pass
    (g.L.Link.shows c.args.link.now) (g.L.Link.shows c.tell.new.link) (g.L.Link.shows c.hear.new.link)
    c.args.inbox.now.feed c.hear.new.feed
    (λ k0 w0 s. c.in-Ok-tell.ensures.told.on may held k0 w0 (asked k0 w0 s))
    (let one = c.in-Ok.ensures.turn in let two = c.in-Ok-tell.ensures.told.turns in omega (arith, one, two))
    (c.hear.ensures.heard c.args.member)
