-- without memory for the feed or the room nothing was done yet, and a session may end so before its greeting
use Rattle.std.proofs.Common.{[]}
use Rattle.xl_turns.specs.Passes.{known}
use Rattle.xl_store.specs.Stores.{start_of, turns_of}
use Rattle.xl_peers.specs.declared.ends.End.TheVariants as end
use Rattle.xl_peers.specs.Sessions.Phase.{Greets}
use Rattle.xl_peers.proofs.Finishing.{starts, ends}
use Rattle.xl_peers.proofs.talking.talk.Goals as goal

pub returns-in_default-clause-session : goal.returns-in_default-clause-session
returns-in_default-clause-session g c =
    let may = g.C.Clock.may_give c.args.host.now.clock.now in
    let start = start_of c.args.store.now in
    ends start (turns_of c.args.store.now) may c.args.member _ _ Greets _ _ [] end.OutOfMemory
    (starts start may c.args.member (known c.args.pass.now) (g.L.Link.shows c.args.link.now)) tt tt

pub returns-in_default-vec-clause-session : goal.returns-in_default-vec-clause-session
returns-in_default-vec-clause-session g c =
    let may = g.C.Clock.may_give c.args.host.now.clock.now in
    let start = start_of c.args.store.now in
    ends start (turns_of c.args.store.now) may c.args.member _ _ Greets _ _ [] end.OutOfMemory
    (starts start may c.args.member (known c.args.pass.now) (g.L.Link.shows c.args.link.now)) tt tt
