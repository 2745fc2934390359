use Rattle.std.proofs.Common.{◌≡◌, ◌≤◌, ℕ, Bool, List, length}
use Rattle.xl_wire.specs.Lengths.{longest_frame}
use Rattle.xl_turns.specs.Passes.{known}
use Rattle.xl_store.specs.Stores.{start_of, IsOf}
use Rattle.xl_peers.specs.Sessions.Phase.{Drains}
use Rattle.xl_peers.specs.Going.{Goes}
use Rattle.xl_peers.proofs.draining.drain.Given as goal

abbrev pub invariant-loop : goal.invariant-loop
invariant-loop g l = record {
  pass : IsOf l.store l.pass;
  room : length l.room ≡ longest_frame;
  on : (may : ℕ → Bool) (held : List ℕ)
      → Goes (start_of l.store) may l.member Drains Drains (known l.initial.pass) (g.L.Link.shows l.initial.link) held
      (known l.pass) (g.L.Link.shows l.link) held;
  turns : (known l.initial.pass).drawn ≤ (known l.pass).drawn;
}
