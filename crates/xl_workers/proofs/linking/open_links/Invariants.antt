use Rattle.std.proofs.Common.{◌≡◌, ◌≤◌, length}
use Rattle.std.specs.Vec.{vec_capacity}
use Rattle.xl_workers.proofs.Links.{AsksSome, SomeLinked}
use Rattle.xl_workers.proofs.linking.open_links.Given as goal

abbrev pub invariant-loop-rest : goal.invariant-loop-rest
invariant-loop-rest g l = record {
  linked : SomeLinked (g.H.Hub.gives l.initial.hub).links g.H.L.Link.shows l.fn.contacts.items
      (g.H.Hub.gives l.hub).links
      l.rest.items l.peers.items;
  room : length l.fn.contacts.items ≤ vec_capacity l.peers;
  asked : AsksSome (g.H.Hub.asked l.initial.hub).links (g.H.Hub.asked l.hub).links l.fn.contacts.items l.rest.items;
  door : (g.H.Hub.gives l.hub).door ≡ (g.H.Hub.gives l.initial.hub).door;
  doors : (g.H.Hub.asked l.hub).doors ≡ (g.H.Hub.asked l.initial.hub).doors;
  later : g.H.Hub.faults l.initial.hub ≤ g.H.Hub.faults l.hub;
}

abbrev pub decreases-loop-rest : goal.decreases-loop-rest
decreases-loop-rest g l = length l.rest.items
