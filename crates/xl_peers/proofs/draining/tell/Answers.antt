-- the link's answer is one step of the session, after which the drains follow, or the read at once
use Rattle.std.proofs.Common.{subst}
use Rattle.xl_links.specs.Links.{Permits}
use Rattle.xl_peers.proofs.Drained.{tells, waits}
use Rattle.xl_peers.proofs.draining.tell.Goals as goal

pub returns-then-not-may_tell-clause-told : goal.returns-then-not-may_tell-clause-told
returns-then-not-may_tell-clause-told g c =
    waits c.args.store.now c.args.member c.args.pass.now (g.L.Link.shows c.args.link.now) (g.L.Link.shows c.may_tell.new.self)
    (subst (λ b. Permits (g.L.Link.shows c.args.link.now) b (g.L.Link.shows c.may_tell.new.self)) c.if-not-may_tell.true
    c.may_tell.ensures)

pub returns-clause-told : goal.returns-clause-told
returns-clause-told g c =
    tells c.args.store.now c.args.member c.args.pass.now (g.L.Link.shows c.args.link.now) (g.L.Link.shows c.may_tell.new.self)
    c.drain.result c.drain.new.pass (g.L.Link.shows c.drain.new.link)
    (subst (λ b. Permits (g.L.Link.shows c.args.link.now) b (g.L.Link.shows c.may_tell.new.self)) c.if-not-may_tell.false
    c.may_tell.ensures)
    c.drain.ensures.drained
