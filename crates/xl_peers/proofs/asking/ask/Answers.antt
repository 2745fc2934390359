-- the answer decides: false goes on to the link, true ends the session, and without a turn it ends there
use Rattle.std.proofs.Common.{◌≤◌, sym, refl, subst, arith}
use Rattle.xl_turns.specs.Passes.{known}
use Rattle.xl_core.specs.declared.event.CoreEvent.TheVariants.{Stopped}
use Rattle.xl_core.specs.Answers.{Told}
use Rattle.xl_store.specs.Stores.{start_of, turns_of, Called}
use Rattle.xl_peers.specs.declared.ends.End.TheVariants as end
use Rattle.xl_peers.specs.Sessions.{Session, IsSession}
use Rattle.xl_peers.specs.Sessions.Phase.{Asks, Looks, Ended}
use Rattle.xl_peers.proofs.Growing.{sent_none}
use Rattle.xl_peers.proofs.Stepping.{so_called, called_last}
use Rattle.xl_peers.proofs.Finishing.{ends, ends_refused}
use Rattle.xl_peers.proofs.asking.ask.Goals as goal

pub returns-else-answer-clause-on : goal.returns-else-answer-clause-on
returns-else-answer-clause-on g c may member w held k0 w0 s =
    let called = subst (λ b. Called c.args.store.now c.args.pass.now Stopped (Told b) c.stopped.new.pass)
    c.if-answer.false c.in-Ok.ensures.called in
    so_called (start_of c.args.store.now) may member k0 w0 Asks Looks _ _ w w held _ s refl called.made (let more =
    called.later in omega arith)
    (sent_none w) (IsSession.goes_on s.steps s.run)

pub returns-then-answer-clause-ends : goal.returns-then-answer-clause-ends
returns-then-answer-clause-ends g c may member w held k0 w0 s =
    let called = subst (λ b. Called c.args.store.now c.args.pass.now Stopped (Told b) c.stopped.new.pass)
    c.if-answer.true c.in-Ok.ensures.called in
    let start = start_of c.args.store.now in
    let run = IsSession.stops s.steps s.run in
    let more : (known c.args.pass.now).drawn ≤ (known c.stopped.new.pass).drawn =
    (let later = called.later in omega arith) in
    let t = so_called start may member k0 w0 Asks Ended _ _ w w held _ s refl called.made more (sent_none w) run in
    ends start (turns_of c.args.store.now) may member k0 w0 Ended _ w held end.Stopped t
    (called_last start may member k0 w0 Asks Ended _ _ w w held _ s refl called.made more (sent_none w) run) tt

pub returns-in-Err-clause-ends : goal.returns-in-Err-clause-ends
returns-in-Err-clause-ends g c may member w held k0 w0 s =
    subst (λ e. Session (start_of c.args.store.now) (turns_of c.args.store.now) may member k0 w0 e
    (known c.stopped.new.pass) w) (sym c.end_of.ensures)
    (ends_refused c.args.store.now may member k0 w0 Asks _ _ w held c.in-Err.end s
    (λ steps first. tt) c.in-Err.ensures.refused)

pub returns-else-answer-clause-turn : goal.returns-else-answer-clause-turn
returns-else-answer-clause-turn g c = c.in-Ok.ensures.called.later
