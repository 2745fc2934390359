-- what was sent is what the drain gave, a failed write sent a front of it, and without a turn nothing was drained
use Rattle.std.proofs.Common.{sym, subst}
use Rattle.xl_turns.specs.Passes.{known}
use Rattle.xl_store.specs.Stores.{start_of, turns_of}
use Rattle.xl_peers.specs.Sessions.{Session}
use Rattle.xl_peers.specs.Sessions.Phase.{Drains}
use Rattle.xl_peers.proofs.Drained.{so_drained, drain_faults}
use Rattle.xl_peers.proofs.Finishing.{ends_refused}
use Rattle.xl_peers.proofs.draining.drain_once.Goals as goal

pub returns-in-Ok-send-clause-drained : goal.returns-in-Ok-send-clause-drained
returns-in-Ok-send-clause-drained g c = record {
  on = λ may held k0 w0 s.
      so_drained c.args.store.now may c.args.member k0 w0 _ _ _ _ _ c.requires.room c.in-Ok.ensures.called _ _ held s
      c.in-Ok-send.ensures.sent;
  turn = c.in-Ok.ensures.called.called.later;
}

pub returns-in-Err-send-clause-drained : goal.returns-in-Err-send-clause-drained
returns-in-Err-send-clause-drained g c may held k0 w0 s =
    drain_faults c.args.store.now may c.args.member k0 w0 _ _ _ _ _ c.requires.room c.in-Ok.ensures.called _ _ held s
    c.in-Err-send.ensures.front

pub returns-in-Err-clause-drained : goal.returns-in-Err-clause-drained
returns-in-Err-clause-drained g c may held k0 w0 s =
    subst (λ e. Session (start_of c.args.store.now) (turns_of c.args.store.now) may c.args.member k0 w0 e
    (known c.drain.new.pass) (g.L.Link.shows c.args.link.now)) (sym c.end_of.ensures)
    (ends_refused c.args.store.now may c.args.member k0 w0 Drains _ _ _ held c.in-Err.end s
    (λ steps first. tt) c.in-Err.ensures.refused)
