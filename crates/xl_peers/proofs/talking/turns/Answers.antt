-- a session begins with nothing done and nothing held, and each turn goes on from the greeting and the turns before
use Rattle.std.proofs.Common.{[], refl, sym, ap, subst}
use Rattle.xl_wire.specs.Feeding.{Fed}
use Rattle.xl_turns.specs.Passes.{known}
use Rattle.xl_store.specs.Stores.{start_of}
use Rattle.xl_peers.specs.Sessions.{NeedsMore}
use Rattle.xl_peers.specs.Sessions.Phase.{Greets}
use Rattle.xl_peers.specs.Going.{SoFar}
use Rattle.xl_peers.proofs.Finishing.{starts}
use Rattle.xl_peers.proofs.talking.turns.Goals as goal

pub loop-init : goal.loop-init
loop-init g c =
    let may = g.C.Clock.may_give c.args.host.now.clock.now in
    let w = g.L.Link.shows c.args.link.now in
    let k = known c.args.pass.now in
    let start = start_of c.args.store.now in
    let before = subst (λ (f : Fed). SoFar start may c.args.member k w Greets k w f.held) (sym c.requires.feed)
    (starts start may c.args.member k w) in
    record {
      pass = c.in-Ok.ensures.pass;
      takes = ap (λ (f : Fed). f.refused) c.requires.feed;
      needs = subst (λ (f : Fed). NeedsMore f.held) (sym c.requires.feed) (6, refl);
      room = c.requires.room;
      far = c.in-Ok.ensures.on may w c.args.inbox.now.feed.held k w before;
    }

pub loop-preserved : goal.loop-preserved
loop-preserved g c = record {
  pass = c.in-Ok-turn.ensures.pass;
  takes = c.in-Ok-turn.ensures.turned.0.takes;
  needs = c.in-Ok-turn.ensures.turned.0.needs;
  room = c.in-Ok-turn.ensures.room;
  far = c.in-Ok-turn.ensures.turned.0.on _ _ c.loop.invariant.far;
}

pub returns-in-Err-clause-session : goal.returns-in-Err-clause-session
returns-in-Err-clause-session g c =
    let may = g.C.Clock.may_give c.args.host.now.clock.now in
    let w = g.L.Link.shows c.args.link.now in
    let k = known c.args.pass.now in
    c.in-Err.ensures.ends may w [] k w (starts (start_of c.args.store.now) may c.args.member k w)

pub returns-in-Err-turn-clause-session : goal.returns-in-Err-turn-clause-session
returns-in-Err-turn-clause-session g c = c.in-Err-turn.ensures.turned _ _ c.loop.invariant.far
