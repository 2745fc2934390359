use Rattle.std.proofs.Common.{length}
use Rattle.xl_peers.proofs.Growing.{Sending}
use Rattle.xl_peers.proofs.sending.send.Given as goal

abbrev pub invariant-loop-rest : goal.invariant-loop-rest
invariant-loop-rest g l = Sending (g.L.Link.shows l.initial.link) (g.L.Link.shows l.link) l.bytes l.rest

abbrev pub decreases-loop-rest : goal.decreases-loop-rest
decreases-loop-rest g l = length l.rest
