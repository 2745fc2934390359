use Rattle.std.proofs.Common.{◌≡◌, ◌≤◌, ℕ, ◌++◌, length, false}
use Rattle.xl_turns.specs.Passes.{known}
use Rattle.xl_links.specs.Links.{Wire}
use Rattle.xl_store.specs.Stores.{start_of, IsOf}
use Rattle.xl_peers.specs.Sessions.{NeedsMore}
use Rattle.xl_peers.specs.Sessions.Phase.{Hands}
use Rattle.xl_peers.specs.Going.{Goes}
use Rattle.xl_peers.proofs.handing.hand.Given as goal

abbrev pub invariant-loop-rest : goal.invariant-loop-rest
invariant-loop-rest g l = record {
  wire : g.L.Link.shows l.link ≡ g.L.Link.shows l.initial.link;
  pass : IsOf l.store l.pass;
  takes : l.feed.refused ≡ false;
  needs : NeedsMore l.feed.held;
  on : (member : ℕ) (w : Wire)
      → Goes (start_of l.store) (g.C.Clock.may_give l.host.clock.now) member Hands Hands (known l.initial.pass) w
      (l.initial.feed.held ++ l.piece) (known l.pass) w (l.feed.held ++ l.rest);
  turns : (known l.initial.pass).drawn ≤ (known l.pass).drawn;
}

abbrev pub decreases-loop-rest : goal.decreases-loop-rest
decreases-loop-rest g l = length l.rest
