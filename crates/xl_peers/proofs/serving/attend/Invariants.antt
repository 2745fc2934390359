use Rattle.xl_turns.specs.Passes.{known}
use Rattle.xl_store.specs.Stores.{start_of, IsOf}
use Rattle.xl_peers.specs.Serving.{Serving}
use Rattle.xl_peers.specs.Serving.Round.{Asks}
use Rattle.xl_peers.proofs.serving.attend.Given as goal

abbrev pub invariant-loop : goal.invariant-loop
invariant-loop g l = record {
  pass : IsOf l.store l.pass;
  far : Serving (start_of l.store) (g.C.Clock.may_give l.host.clock.now) l.member (known l.initial.pass)
      (g.L.Link.shows l.initial.link) Asks (known l.pass) (g.L.Link.shows l.link);
}
