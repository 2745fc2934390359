-- the call is the session's first step, and without a turn the session ends before it
use Rattle.std.proofs.Common.{sym, refl, subst, arith}
use Rattle.xl_turns.specs.Passes.{known}
use Rattle.xl_store.specs.Stores.{start_of, turns_of}
use Rattle.xl_peers.specs.Sessions.{Session, IsSession}
use Rattle.xl_peers.specs.Sessions.Phase.{Greets, Asks}
use Rattle.xl_peers.proofs.Growing.{sent_none}
use Rattle.xl_peers.proofs.Stepping.{so_called}
use Rattle.xl_peers.proofs.Finishing.{ends_refused}
use Rattle.xl_peers.proofs.asking.greet.Goals as goal

pub returns-in-Ok-clause-on : goal.returns-in-Ok-clause-on
returns-in-Ok-clause-on g c may w held k0 w0 s =
    let called = c.in-Ok.ensures.called in
    so_called (start_of c.args.store.now) may c.args.member k0 w0 Greets Asks _ _ w w held _ s refl called.made
    (let more = called.later in omega arith)
    (sent_none w) (IsSession.greets s.steps s.run)

pub returns-in-Err-clause-ends : goal.returns-in-Err-clause-ends
returns-in-Err-clause-ends g c may w held k0 w0 s =
    subst (λ e. Session (start_of c.args.store.now) (turns_of c.args.store.now) may c.args.member k0 w0 e
    (known c.greet.new.pass) w) (sym c.end_of.ensures)
    (ends_refused c.args.store.now may c.args.member k0 w0 Greets _ _ w held c.in-Err.end s
    (λ steps first. tt) c.in-Err.ensures.refused)
