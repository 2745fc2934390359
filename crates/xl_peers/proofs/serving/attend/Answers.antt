-- a serving starts with nothing done, and a round that ends it follows on all the rounds before
use Rattle.std.proofs.Common.{subst}
use Rattle.xl_turns.specs.Passes.{known}
use Rattle.xl_store.specs.Stores.{start_of, turns_of}
use Rattle.xl_peers.specs.Serving.{Follows}
use Rattle.xl_peers.proofs.Rounds.{serving_starts}
use Rattle.xl_peers.proofs.serving.attend.Goals as goal

pub loop-init : goal.loop-init
loop-init g c = record {
  pass = c.requires.pass;
  far = serving_starts (start_of c.args.store.now) (g.C.Clock.may_give c.args.host.now.clock.now) c.args.member
      (known c.args.pass.now) (g.L.Link.shows c.args.link.now);
}

pub returns-in-Ok-Some-clause-serves : goal.returns-in-Ok-Some-clause-serves
returns-in-Ok-Some-clause-serves g c =
    let store = c.args.store.now in
    subst (λ o. Follows (start_of store) (turns_of store) (g.C.Clock.may_give c.args.host.now.clock.now) c.args.member
    (known c.args.pass.now) (g.L.Link.shows c.args.link.now) o (known c.round.new.pass)
    (g.L.Link.shows c.round.new.link)) c.in-Ok-Some.field-0-is
    (c.in-Ok-Some.ensures.follows _ _ c.loop.invariant.far)
