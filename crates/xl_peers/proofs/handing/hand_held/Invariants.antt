use Rattle.std.proofs.Common.{◌≡◌}
use Rattle.xl_store.specs.Stores.{IsOf}
use Rattle.xl_peers.specs.Going.{HandsOn}
use Rattle.xl_peers.proofs.handing.hand_held.Given as goal

abbrev pub invariant-loop : goal.invariant-loop
invariant-loop g l = record {
  wire : g.L.Link.shows l.link ≡ g.L.Link.shows l.initial.link;
  pass : IsOf l.store l.pass;
  on : HandsOn l.store (g.C.Clock.may_give l.host.clock.now) l.initial.pass l.initial.feed l.pass l.feed;
}
