use Rattle.std.proofs.Common.{◌≡◌, length, false}
use Rattle.xl_wire.specs.Lengths.{longest_frame}
use Rattle.xl_turns.specs.Passes.{known}
use Rattle.xl_store.specs.Stores.{start_of, IsOf}
use Rattle.xl_peers.specs.Sessions.{NeedsMore}
use Rattle.xl_peers.specs.Sessions.Phase.{Asks}
use Rattle.xl_peers.specs.Going.{SoFar}
use Rattle.xl_peers.proofs.talking.turns.Given as goal

abbrev pub invariant-loop : goal.invariant-loop
invariant-loop g l = record {
  pass : IsOf l.store l.pass;
  takes : l.inbox.feed.refused ≡ false;
  needs : NeedsMore l.inbox.feed.held;
  room : length l.room ≡ longest_frame;
  far : SoFar (start_of l.store) (g.C.Clock.may_give l.host.clock.now) l.member (known l.fn.pass) (g.L.Link.shows l.fn.link) Asks
      (known l.pass) (g.L.Link.shows l.link) l.inbox.feed.held;
}
