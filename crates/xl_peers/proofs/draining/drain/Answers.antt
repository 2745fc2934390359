-- what goes on after one drain goes on after the next, and a drain that ends the session ends it after all of these
use Rattle.std.proofs.Common.{arith}
use Rattle.xl_peers.proofs.draining.drain.Goals as goal

pub loop-init : goal.loop-init
loop-init g c = record {
  pass = c.requires.pass;
  room = c.requires.room;
  on = λ may held k0 w0 s. s;
  turns = omega arith;
}

pub drain_once-requires-clause-pass : goal.drain_once-requires-clause-pass
drain_once-requires-clause-pass g c = c.loop.invariant.pass

pub drain_once-requires-clause-peer : goal.drain_once-requires-clause-peer
drain_once-requires-clause-peer g c = c.requires.peer

pub drain_once-requires-clause-room : goal.drain_once-requires-clause-room
drain_once-requires-clause-room g c = c.loop.invariant.room

pub returns-in-Err-clause-drained : goal.returns-in-Err-clause-drained
returns-in-Err-clause-drained g c may held k0 w0 s =
    c.in-Err.ensures.drained may held k0 w0 (c.loop.invariant.on may held k0 w0 s)
